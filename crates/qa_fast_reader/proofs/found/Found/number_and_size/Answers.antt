use Rattle.std.proofs.Common.{codes, refl}
use Rattle.std.proofs.lemmas.Option.{IfSome_then}
use Rattle.qa_fast_reader.proofs.Taking.{later_if}
use Rattle.qa_fast_reader.proofs.found.Found.number_and_size.Goals as goal

pub returns : goal.returns
returns c = IfSome_then c.open_size.result c.open_size.ensures (λ rest puts whole before.
    let first = later_if (codes "number") c.args.self.now c.open_number.new.self whole _ _ _ refl (c.in_ok-next_value.ensures (codes "number") refl) c.in_ok-rest.ensures before in
    later_if (codes "size") c.open_number.new.self c.open_size.new.self whole _ _ _ refl (c.in_ok-next_value-2.ensures (codes "size") refl) puts first)

use Rattle.std.proofs.Common.{codes, refl}
use Rattle.std.proofs.lemmas.Option.{IfSome_then}
use Rattle.qa_fast_reader.proofs.Taking.{later_if}
use Rattle.qa_fast_reader.proofs.found.Found.eliciting_and_in_flight.Goals as goal

pub returns : goal.returns
returns c = IfSome_then c.open_in_flight.result c.open_in_flight.ensures (λ rest puts whole before.
    let first = later_if (codes "eliciting") c.args.self.now c.open_eliciting.new.self whole _ _ _ refl (c.in_ok-next_value.ensures (codes "eliciting") refl) c.in_ok-rest.ensures before in
    later_if (codes "in_flight") c.open_eliciting.new.self c.open_in_flight.new.self whole _ _ _ refl (c.in_ok-next_value-2.ensures (codes "in_flight") refl) puts first)

use Rattle.std.proofs.Common.{codes, refl}
use Rattle.std.proofs.lemmas.Option.{IfSome_then}
use Rattle.qa_fast_reader.proofs.Taking.{next_if}
use Rattle.qa_fast_reader.proofs.found.Found.space_next.Goals as goal

pub returns : goal.returns
returns c =
    IfSome_then c.space.result c.space.ensures.found
    (λ rest puts whole before. next_if (codes "space") _ _ whole c.args.bytes.now c.in_ok-after.field-0.now rest.now refl c.in_ok-after.ensures (λ _. puts) before)

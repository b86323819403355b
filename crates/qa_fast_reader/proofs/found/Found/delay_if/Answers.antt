use Rattle.std.proofs.Common.{codes, refl}
use Rattle.std.proofs.lemmas.Option.{IfSome_then}
use Rattle.qa_fast_reader.proofs.Taking.{next_if}
use Rattle.qa_fast_reader.proofs.found.Found.delay_if.Goals as goal

pub returns : goal.returns
returns c =
    IfSome_then c.open_delay.result c.open_delay.ensures
    (λ rest puts whole before. next_if (codes "delay") _ _ whole c.args.bytes.now c.in-Some.behind.now rest.now refl c.in-Some.ensures puts before)

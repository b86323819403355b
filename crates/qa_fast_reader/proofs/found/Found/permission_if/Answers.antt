use Rattle.std.proofs.Common.{codes, refl}
use Rattle.std.proofs.lemmas.Option.{IfSome_then}
use Rattle.qa_fast_reader.proofs.Taking.{next_if}
use Rattle.qa_fast_reader.proofs.found.Found.permission_if.Goals as goal

pub returns : goal.returns
returns c =
    IfSome_then c.permission.result c.permission.ensures.found
    (λ rest puts whole before. next_if (codes "leave") _ _ whole c.args.bytes.now c.in-Some.behind.now rest.now refl c.in-Some.ensures (λ _. puts) before)

use Rattle.std.proofs.Common.{subst, codes, refl}
use Rattle.std.proofs.lemmas.Option.{IfSome_then}
use Rattle.qa_fast_reader.specs.declared.found.Found.{Found}
use Rattle.qa_fast_reader.specs.Found.{PutsIf}
use Rattle.qa_fast_reader.proofs.Taking.{first_if}
use Rattle.qa_fast_reader.proofs.found.Found.ack_begun.Goals as goal

pub returns : goal.returns
returns c =
    let w = c.args.bytes.now in
    let behind = c.in-Some.behind.now in
    let rest = c.in_ok-rest.rest.now in
    let s1 = first_if (codes "delay") c.open_delay.new.self w behind rest refl c.in-Some.ensures (subst (λ (f : Found). PutsIf (codes "delay") f c.open_delay.new.self behind rest) c.requires c.in_ok-rest.ensures) in
    IfSome_then c.ack_next.result c.ack_next.ensures (λ end ends. ends w s1)

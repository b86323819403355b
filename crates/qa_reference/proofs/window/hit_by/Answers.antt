use Rattle.std.proofs.Common.{◌∙◌, ℕ, Option, sym, ap, fold}
use Rattle.qa_base.specs.machine.Reno.{on_congestion_event, moved}
use Rattle.qa_reference.specs.Words.{hits_at}
use Rattle.qa_reference.proofs.window.hit_by.Goals as goal

-- Written out, so that a wrong body is refused at these lines.
pub returns-in-Some-clause-value : goal.returns-in-Some-clause-value
returns-in-Some-clause-value c =
    let reno = c.args.reno in
    let last = c.in-Some.last in
    let now = c.args.now in
    let d = c.args.header.now.max_datagram_size in
    c.on_congestion_event.ensures.state
    ∙ (ap (λ (n : ℕ). on_congestion_event n last now reno) c.max_datagram_size.ensures.value
    ∙ sym (ap (λ (o : Option ℕ). fold (moved d) reno (hits_at now o)) c.in-Some.is))

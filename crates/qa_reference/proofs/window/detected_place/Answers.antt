use Rattle.std.proofs.Common.{◌≡◌, ◌∙◌, ◌∷◌, List, length, sym, ap, arith, rules}
use Rattle.std.proofs.lemmas.Grind.{common_steps}
use Rattle.qa_base.specs.declared.event.Event.{Event}
use Rattle.qa_base.specs.machine.Moments.{before_last, detection_of}
use Rattle.qa_base.specs.machine.Packets.{history_of}
use Rattle.qa_base.proofs.machine.Histories.{length-history_of}
use Rattle.qa_reference.proofs.window.detected_place.Goals as goal

-- Written out, so that a wrong body is refused at these lines.
pub returns-in-Some-clause-value : goal.returns-in-Some-clause-value
returns-in-Some-clause-value c =
    let earlier = c.in-Some.earlier.now in
    let is : detection_of (c.args.event.now ∷ history_of c.args.before.now) ≡ c.in-Some.field-0-0.now ∷ history_of earlier = grind (arith, common_steps) in
    sym (ap (λ (h : List Event). length (before_last h)) is ∙ length-history_of earlier)

pub returns-in_default-clause-value : goal.returns-in_default-clause-value
returns-in_default-clause-value c =
    let all = c.args.event.now ∷ history_of c.args.before.now in
    let own : detection_of all ≡ all = search rules in
    sym (ap (λ (h : List Event). length (before_last h)) own ∙ length-history_of c.args.before.now)

use Rattle.std.proofs.Common.{◌≡◌, ◌∙◌, ◌∷◌, arith}
use Rattle.std.proofs.lemmas.Grind.{common_steps}
use Rattle.qa_base.specs.machine.Moments.{detection_of, last_time}
use Rattle.qa_base.specs.machine.Packets.{history_of}
use Rattle.qa_base.specs.values.Events.{time_of}
use Rattle.qa_reference.proofs.window.detected_at.Goals as goal

-- Written out, so that a wrong body is refused at this line.
pub returns-in-Some : goal.returns-in-Some
returns-in-Some c =
    let is : time_of c.in-Some.detection.now ≡ last_time (detection_of (c.args.event.now ∷ history_of c.args.before.now)) = grind (arith, common_steps) in
    c.time.ensures.value ∙ is

use Rattle.std.proofs.Common.{◌≡◌, ◌∙◌, ◌∷◌, sym, ap, rules}
use Rattle.qa_base.specs.machine.Moments.{detection_of}
use Rattle.qa_base.specs.machine.Packets.{history_of}
use Rattle.qa_base.specs.machine.Window.{acknowledged_bytes}
use Rattle.qa_reference.proofs.reported.detected_bytes.Goals as goal

-- Written out, so that a wrong body is refused at this line.
pub returns-in_default : goal.returns-in_default
returns-in_default c =
    let all = c.args.event.now ∷ history_of c.args.before.now in
    let own : detection_of all ≡ all = search rules in
    c.acknowledged_bytes-in_default.ensures.value ∙ sym (ap acknowledged_bytes own)

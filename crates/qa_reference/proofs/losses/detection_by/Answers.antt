use Rattle.std.proofs.Common.{◌∙◌, ◌∷◌, Bool, Some, None, sym, ap}
use Rattle.std.specs.Prelude.{if◌then◌else◌}
use Rattle.qa_base.specs.declared.event.Event.{Event}
use Rattle.qa_base.specs.machine.Detection.{detection_by}
use Rattle.qa_base.specs.machine.Packets.{history_of, acknowledges_new}
use Rattle.qa_reference.proofs.losses.detection_by.Goals as goal

-- Written out, so that a wrong body is refused at these lines.
pub returns-else-acknowledges_new : goal.returns-else-acknowledges_new
returns-else-acknowledges_new c =
    let ack = c.in-Ack.ack in
    let h = history_of c.args.before.now in
    let by = λ (new : Bool). if new then Some (ack.space, ack.time) else None in
    sym (ap (λ (e : Event). detection_by c.args.header.now c.args.rtt (e ∷ h)) c.in-Ack.is ∙ ap by (ap (λ (e : Event). acknowledges_new (e ∷ h)) (sym c.in-Ack.is) ∙ (sym c.acknowledges_new.ensures ∙ c.if-acknowledges_new.false)))

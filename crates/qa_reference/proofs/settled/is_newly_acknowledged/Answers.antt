use Rattle.std.proofs.Common.{◌∙◌, sym, ap}
use Rattle.std.proofs.lemmas.Bool.{false≢true}
use Rattle.qa_base.specs.machine.Packets.{Packet}
use Rattle.qa_base.specs.values.Events.{acknowledges}
use Rattle.qa_reference.proofs.Thirds.{asked_third}
use Rattle.qa_reference.proofs.settled.is_newly_acknowledged.Goals.{then-acknowledges, else-acknowledges}
use Rattle.qa_reference.proofs.settled.is_newly_acknowledged.Goals as goal

-- Written out, so that a wrong body is refused at these lines.
pub returns-then-not-is_acknowledged : goal.returns-then-not-is_acknowledged
returns-then-not-is_acknowledged c =
    let covered = c.acknowledges.ensures ∙ ap (λ (p : Packet). acknowledges p.space p.number c.args.event.now) c.packet.view_is in
    elim c.if-acknowledges.branch [
      | then-acknowledges w ↦ asked_third _ _ _ _ _ _ covered w.is_acknowledged.ensures c.is_declared_lost.ensures w.if-acknowledges.true (sym w.value-is ∙ c.if-not-is_acknowledged.true)
      | else-acknowledges w ↦ absurd (false≢true (sym w.if-acknowledges.false ∙ sym w.value-is ∙ c.if-not-is_acknowledged.true))
    ]

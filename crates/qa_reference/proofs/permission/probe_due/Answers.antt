use Rattle.std.proofs.Common.{◌∙◌, ◌∷◌, Bool, sym, ap, take}
use Rattle.std.specs.Prelude.{if◌then◌else◌}
use Rattle.qa_base.specs.machine.Permission.{timer_space}
use Rattle.qa_base.specs.machine.Packets.{history_of}
use Rattle.qa_base.specs.machine.Probes.{probe_due, unanswered_by}
use Rattle.qa_base.proofs.machine.Steps.{probe_due_after}
use Rattle.qa_reference.proofs.Turns.{one_more, at_end}
use Rattle.qa_reference.proofs.permission.probe_due.Goals as goal
use Rattle.qa_reference.proofs.permission.probe_due.Goals.{then-is_pto, else-is_pto}

pub loop-place-preserved : goal.loop-place-preserved
loop-place-preserved c =
    let e = c.index-events-place.result in
    let before = history_of (take c.loop-place.place c.args.events.now) in
    let next = ap probe_due (one_more c.args.events.now c.loop-place.place e c.loop-place-test.true c.index-events-place.is) ∙ probe_due_after e before in
    let by = λ (pto : Bool). if pto then timer_space (e ∷ before) else unanswered_by (e ∷ before) (probe_due before) in
    elim c.if-is_pto.branch [
      | then-is_pto w ↦ w.due-is ∙ (w.timer_space-due.ensures before ∙ sym (next ∙ ap by (sym (c.is_pto.ensures before) ∙ w.if-is_pto.true)))
      | else-is_pto w ↦ w.due-is ∙ (w.unanswered_by-due.ensures ∙ (ap (unanswered_by (e ∷ before)) c.loop-place.invariant ∙ sym (next ∙ ap by (sym (c.is_pto.ensures before) ∙ w.if-is_pto.false))))
    ]

pub returns : goal.returns
returns c = c.loop-place.invariant ∙ at_end probe_due c.args.events.now c.loop-place.place c.loop-place-test.false

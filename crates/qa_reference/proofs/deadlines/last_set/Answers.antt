use Rattle.std.proofs.Common.{◌∙◌, Bool, Some, sym, ap, take}
use Rattle.std.specs.Prelude.{if◌then◌else◌}
use Rattle.qa_base.specs.values.Events.{time_of}
use Rattle.qa_base.specs.machine.Packets.{history_of}
use Rattle.qa_base.specs.machine.Timer.{last_set}
use Rattle.qa_base.proofs.machine.Steps.{last_set_after}
use Rattle.qa_reference.proofs.Turns.{one_more, at_end}
use Rattle.qa_reference.proofs.deadlines.last_set.Goals as goal
use Rattle.qa_reference.proofs.deadlines.last_set.Goals.{then-sets_timer, else-sets_timer}

pub loop-place-preserved : goal.loop-place-preserved
loop-place-preserved c =
    let e = c.index-events-place.result in
    let before = history_of (take c.loop-place.place c.args.events.now) in
    let next = ap last_set (one_more c.args.events.now c.loop-place.place e c.loop-place-test.true c.index-events-place.is) ∙ last_set_after e before in
    let by = λ (sets : Bool). if sets then Some (time_of e) else last_set before in
    elim c.if-sets_timer.branch [
      | then-sets_timer w ↦ w.last-is ∙ (ap Some w.time.ensures.value ∙ sym (next ∙ ap by (sym c.sets_timer.ensures ∙ w.if-sets_timer.true)))
      | else-sets_timer w ↦ w.last-is ∙ (c.loop-place.invariant ∙ sym (next ∙ ap by (sym c.sets_timer.ensures ∙ w.if-sets_timer.false)))
    ]

pub returns : goal.returns
returns c = c.loop-place.invariant ∙ at_end last_set c.args.events.now c.loop-place.place c.loop-place-test.false

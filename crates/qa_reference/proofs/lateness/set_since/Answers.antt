use Rattle.std.proofs.Common.{◌∙◌, Bool, List, sym, ap, take}
use Rattle.std.specs.Prelude.{if◌then◌else◌}
use Rattle.qa_base.specs.declared.event.Event.{Event}
use Rattle.qa_base.specs.values.Events.{time_of}
use Rattle.qa_base.specs.machine.Packets.{history_of}
use Rattle.qa_base.specs.machine.Timer.{deadline, is_same_due, set_since}
use Rattle.qa_reference.proofs.Turns.{one_more, at_end}
use Rattle.qa_reference.proofs.lateness.set_since.Goals as goal
use Rattle.qa_reference.proofs.lateness.set_since.Goals.{then-not-keeps_deadline, else-not-keeps_deadline}

pub loop-place-preserved : goal.loop-place-preserved
loop-place-preserved c =
    let e = c.index-events-place.result in
    let before = history_of (take c.loop-place.place c.args.events.now) in
    let one = one_more c.args.events.now c.loop-place.place e c.loop-place-test.true c.index-events-place.is in
    let next = ap (set_since c.args.header.now) one in
    let by = λ (same : Bool). if same then set_since c.args.header.now before else time_of e in
    let kept = ap (λ (h : List Event). is_same_due (deadline c.args.header.now before) (deadline c.args.header.now h)) (sym one) ∙ sym c.keeps_deadline.ensures in
    elim c.if-not-keeps_deadline.branch [
      | then-not-keeps_deadline w ↦ w.since-is ∙ (w.time-since.ensures.value ∙ sym (next ∙ ap by (kept ∙ w.if-not-keeps_deadline.true)))
      | else-not-keeps_deadline w ↦ w.since-is ∙ (c.loop-place.invariant ∙ sym (next ∙ ap by (kept ∙ w.if-not-keeps_deadline.false)))
    ]

pub returns : goal.returns
returns c = c.loop-place.invariant ∙ at_end (set_since c.args.header.now) c.args.events.now c.loop-place.place c.loop-place-test.false

use Rattle.std.proofs.Common.{◌∙◌, ◌++◌, Option, Some, sym, ap, take}
use Rattle.qa_base.specs.machine.Packets.{Packet, history_of, packets_of, is_of}
use Rattle.qa_base.specs.machine.Timer.{last_eliciting}
use Rattle.qa_reference.specs.Listed.{listed}
use Rattle.qa_reference.proofs.Eliciting.{time_of_first, first_eliciting, first_not_eliciting}
use Rattle.qa_reference.proofs.Turns.{passing_next, at_end}
use Rattle.qa_reference.proofs.deadlines.last_eliciting.Goals as goal
use Rattle.qa_reference.proofs.deadlines.last_eliciting.Goals.{in-Some+then-packet, in-Some+else-packet, in_default}

pub loop-place-preserved : goal.loop-place-preserved
loop-place-preserved c =
    let rest = packets_of (history_of (take c.loop-place.place c.args.events.now)) c.args.space in
    let next = passing_next time_of_first (is_of c.args.space) c.args.events.now c.loop-place.place c.index-events-place.result c.packet_in.result c.loop-place-test.true c.index-events-place.is c.packet_in.ensures in
    let with = λ (r : Option Packet). time_of_first (listed r ++ rest) in
    let asks = λ (p : Packet). p.eliciting in
    elim c.match-packet_in.branch [
      | in-Some+then-packet w ↦ w.last-is ∙ (ap (λ (p : Packet). Some p.time) w.packet.view_is ∙ sym (next ∙ (ap with w.in-Some.is ∙ first_eliciting w.in-Some.packet rest (sym (ap asks w.packet.view_is) ∙ w.if-packet.true))))
      | in-Some+else-packet w ↦ w.last-is ∙ (c.loop-place.invariant ∙ sym (next ∙ (ap with w.in-Some.is ∙ first_not_eliciting w.in-Some.packet rest (sym (ap asks w.packet.view_is) ∙ w.if-packet.false))))
      | in_default w ↦ w.last-is ∙ (c.loop-place.invariant ∙ sym (next ∙ ap with w.in_default.is))
    ]

pub returns : goal.returns
returns c = c.loop-place.invariant ∙ at_end (λ part. last_eliciting part c.args.space) c.args.events.now c.loop-place.place c.loop-place-test.false

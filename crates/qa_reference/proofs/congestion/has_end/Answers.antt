use Rattle.std.proofs.Common.{◌∙◌, ◌||◌, ◌++◌, Bool, Option, sym, ap, take}
use Rattle.std.specs.List.{list_any}
use Rattle.qa_base.specs.machine.Detection.{are_ends}
use Rattle.qa_base.specs.machine.Packets.{Packet, history_of}
use Rattle.qa_base.specs.machine.Rtt.{Estimate}
use Rattle.qa_reference.specs.Listed.{listed}
use Rattle.qa_reference.specs.Looks.{is_lost_by, lost_in}
use Rattle.qa_reference.proofs.Turns.{passing_next, at_end}
use Rattle.qa_reference.proofs.congestion.has_end.Goals as goal
use Rattle.qa_reference.proofs.congestion.has_end.Goals.{in-Some+then-are_ends, in-Some+else-are_ends, in_default}

pub loop-place-preserved : goal.loop-place-preserved
loop-place-preserved c =
    let h = history_of c.args.events.now in
    let rest = lost_in h c.args.losses (history_of (take c.loop-place.place c.args.events.now)) in
    let any = list_any (are_ends c.args.header.now c.args.losses.look.rtt h c.args.first) in
    let next = passing_next any (is_lost_by h c.args.losses) c.args.events.now c.loop-place.place c.index-events-place.result c.lost_of.result c.loop-place-test.true c.index-events-place.is c.lost_of.ensures in
    let with = λ (r : Option Packet). any (listed r ++ rest) in
    let or = λ (b : Bool). b || any rest in
    let test = λ (p : Packet). ap (λ (r : Estimate). are_ends c.args.header.now r h c.args.first p) c.rtt-rtt.ensures in
    elim c.match-lost_of.branch [
      | in-Some+then-are_ends w ↦ w.found-is ∙ sym (next ∙ (ap with w.in-Some.is ∙ ap or (sym (test w.in-Some.packet) ∙ (sym w.are_ends.ensures ∙ w.if-are_ends.true))))
      | in-Some+else-are_ends w ↦ w.found-is ∙ (c.loop-place.invariant ∙ sym (next ∙ (ap with w.in-Some.is ∙ ap or (sym (test w.in-Some.packet) ∙ (sym w.are_ends.ensures ∙ w.if-are_ends.false)))))
      | in_default w ↦ w.found-is ∙ (c.loop-place.invariant ∙ sym (next ∙ ap with w.in_default.is))
    ]

pub returns : goal.returns
returns c =
    let h = history_of c.args.events.now in
    c.loop-place.invariant ∙ at_end (λ part. list_any (are_ends c.args.header.now c.args.losses.look.rtt h c.args.first) (lost_in h c.args.losses part)) c.args.events.now c.loop-place.place c.loop-place-test.false

use Rattle.std.proofs.Common.{◌∙◌, ◌||◌, ◌++◌, Bool, Option, sym, ap, take}
use Rattle.std.specs.List.{list_any}
use Rattle.qa_base.specs.machine.Detection.{are_ends}
use Rattle.qa_base.specs.machine.Packets.{Packet, history_of}
use Rattle.qa_reference.specs.Listed.{listed}
use Rattle.qa_reference.specs.Looks.{is_lost_by, lost_in}
use Rattle.qa_reference.proofs.Taken.{persistent_seen}
use Rattle.qa_reference.proofs.Turns.{passing_next, at_end}
use Rattle.qa_reference.proofs.congestion.is_persistent.Goals as goal
use Rattle.qa_reference.proofs.congestion.is_persistent.Goals.{in-Some+then-has_end, in-Some+else-has_end, in_default}

pub loop-place-preserved : goal.loop-place-preserved
loop-place-preserved c =
    let h = history_of c.args.events.now in
    let rest = lost_in h c.args.losses (history_of (take c.loop-place.place c.args.events.now)) in
    let test : Packet → Bool = λ p. list_any (are_ends c.args.header.now c.args.losses.look.rtt h p) (lost_in h c.args.losses h) in
    let any = list_any test in
    let next = passing_next any (is_lost_by h c.args.losses) c.args.events.now c.loop-place.place c.index-events-place.result c.lost_of.result c.loop-place-test.true c.index-events-place.is c.lost_of.ensures in
    let with = λ (r : Option Packet). any (listed r ++ rest) in
    let or = λ (b : Bool). b || any rest in
    elim c.match-lost_of.branch [
      | in-Some+then-has_end w ↦ w.found-is ∙ sym (next ∙ (ap with w.in-Some.is ∙ ap or (sym w.has_end.ensures ∙ w.if-has_end.true)))
      | in-Some+else-has_end w ↦ w.found-is ∙ (c.loop-place.invariant ∙ sym (next ∙ (ap with w.in-Some.is ∙ ap or (sym w.has_end.ensures ∙ w.if-has_end.false))))
      | in_default w ↦ w.found-is ∙ (c.loop-place.invariant ∙ sym (next ∙ ap with w.in_default.is))
    ]

pub returns : goal.returns
returns c =
    let h = history_of c.args.events.now in
    let test : Packet → Bool = λ p. list_any (are_ends c.args.header.now c.args.losses.look.rtt h p) (lost_in h c.args.losses h) in
    c.loop-place.invariant ∙ (at_end (λ part. list_any test (lost_in h c.args.losses part)) c.args.events.now c.loop-place.place c.loop-place-test.false
    ∙ persistent_seen c.args.header.now h c.args.losses c.requires.seen)

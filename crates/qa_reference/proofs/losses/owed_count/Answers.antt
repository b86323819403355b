use Rattle.std.proofs.Common.{◌∙◌, ◌++◌, Option, length, sym, ap, arith, take}
use Rattle.qa_base.specs.machine.Packets.{Packet, history_of}
use Rattle.qa_reference.specs.Listed.{listed}
use Rattle.qa_reference.specs.Looks.{is_found_by, found_in}
use Rattle.qa_reference.proofs.Owed.{owed_by}
use Rattle.qa_reference.proofs.Turns.{passing_next, at_end}
use Rattle.qa_reference.proofs.losses.owed_count.Goals as goal
use Rattle.qa_reference.proofs.losses.owed_count.Goals.{in-Some, in_default}

pub loop-place-preserved : goal.loop-place-preserved
loop-place-preserved c =
    let h = history_of c.args.events.now in
    let rest = found_in h c.args.look (history_of (take c.loop-place.place c.args.events.now)) in
    let next = passing_next length (is_found_by h c.args.look) c.args.events.now c.loop-place.place c.index-events-place.result c.found_of.result c.loop-place-test.true c.index-events-place.is c.found_of.ensures in
    let with = λ (r : Option Packet). length (listed r ++ rest) in
    let was = c.loop-place.invariant.count in
    elim c.match-found_of.branch [
      | in-Some w ↦ let now = next ∙ ap with w.in-Some.is in record { count = omega (arith, now, was); bound = omega arith }
      | in_default w ↦ let now = next ∙ ap with w.in_default.is in record { count = omega (arith, now, was); bound = omega arith }
    ]

pub returns : goal.returns
returns c =
    let h = history_of c.args.events.now in
    c.loop-place.invariant.count ∙ (at_end (λ part. length (found_in h c.args.look part)) c.args.events.now c.loop-place.place c.loop-place-test.false
    ∙ sym (ap length (owed_by c.args.header.now h c.args.look c.requires.seen)))

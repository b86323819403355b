use Rattle.std.proofs.Common.{◌≡◌, ◌∙◌, ◌+◌, ◌++◌, Option, ap, arith, take, sum_by}
use Rattle.std.proofs.lemmas.List.Sums.{sum_by-cons}
use Rattle.qa_base.specs.machine.Packets.{Packet, history_of, packets, is_newly_acknowledged}
use Rattle.qa_reference.specs.Listed.{listed}
use Rattle.qa_reference.proofs.Reports.{passing_size, sum_of_new}
use Rattle.qa_reference.proofs.Turns.{packet_next, at_end}
use Rattle.qa_reference.proofs.reported.new_bytes.Goals as goal
use Rattle.qa_reference.proofs.reported.new_bytes.Goals.{in-Some, in_default}

pub loop-place-preserved : goal.loop-place-preserved
loop-place-preserved c =
    let size = passing_size (is_newly_acknowledged c.args.event.now (history_of c.args.before.now)) in
    let rest = packets (history_of (take c.loop-place.place c.args.before.now)) in
    let next = packet_next (sum_by size) c.args.before.now c.loop-place.place c.index-before-place.result c.packet_of.result c.loop-place-test.true c.index-before-place.is c.packet_of.ensures in
    let with = λ (r : Option Packet). sum_by size (listed r ++ rest) in
    let was = c.loop-place.invariant.value in
    elim c.match-packet_of.branch [
      | in-Some w ↦
          let now : sum_by size (packets (history_of (take (c.loop-place.place + 1) c.args.before.now))) ≡ size w.in-Some.packet + sum_by size rest = next ∙ (ap with w.in-Some.is ∙ sum_by-cons size w.in-Some.packet rest) in
          let here = w.new_size.ensures in
          record { value = omega (arith, now, was, here); bound = omega arith }
      | in_default w ↦ let now = next ∙ ap with w.in_default.is in record { value = omega (arith, now, was); bound = omega arith }
    ]

pub returns-clause-value : goal.returns-clause-value
returns-clause-value c =
    let test = is_newly_acknowledged c.args.event.now (history_of c.args.before.now) in
    c.loop-place.invariant.value
    ∙ (at_end (λ part. sum_by (passing_size test) (packets part)) c.args.before.now c.loop-place.place c.loop-place-test.false
    ∙ sum_of_new test (packets (history_of c.args.before.now)))

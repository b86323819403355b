use Rattle.std.proofs.Common.{◌≡◌, ◌∙◌, ◌&&◌, ◌++◌, List, Bool, true, false, Option, sym, ap, take, filter, find, rules}
use Rattle.std.specs.Prelude.{◌==◌}
use Rattle.qa_base.specs.machine.Packets.{Packet, history_of, packets, is_newly_acknowledged}
use Rattle.qa_reference.specs.Listed.{listed}
use Rattle.qa_reference.proofs.Filtered.{found_here, found_later}
use Rattle.qa_reference.proofs.Turns.{packet_next, at_end}
use Rattle.qa_reference.proofs.sampling.newly_numbered.Goals as goal
use Rattle.qa_reference.proofs.sampling.newly_numbered.Goals.{in-Some+then-is_newly_acknowledged+then-get-number, in-Some+else-is_newly_acknowledged, in_default}

pub loop-place-preserved : goal.loop-place-preserved
loop-place-preserved c =
    let test = is_newly_acknowledged c.args.event.now (history_of c.args.before.now) in
    let asked : Packet → Bool = λ p. p.number == c.args.number in
    let rest = packets (history_of (take c.loop-place.place c.args.before.now)) in
    let latest : List Packet → Option Packet = λ ps. find asked (filter test ps) in
    let next = packet_next latest c.args.before.now c.loop-place.place c.index-before-place.result c.packet_of.result c.loop-place-test.true c.index-before-place.is c.packet_of.ensures in
    let with = λ (r : Option Packet). latest (listed r ++ rest) in
    elim c.match-packet_of.branch [
      | in-Some+then-is_newly_acknowledged+then-get-number w ↦ (
          let is : asked w.in-Some.packet ≡ true = search rules in
          w.found-is ∙ sym (next ∙ (ap with w.in-Some.is ∙ found_here asked test w.in-Some.packet rest (sym w.is_newly_acknowledged.ensures ∙ w.if-is_newly_acknowledged.true) is)))
      | in-Some+else-is_newly_acknowledged w ↦ (
          let none : (test w.in-Some.packet && asked w.in-Some.packet) ≡ false = search rules in
          w.found-is ∙ (c.loop-place.invariant ∙ sym (next ∙ (ap with w.in-Some.is ∙ found_later asked test w.in-Some.packet rest none))))
      | in_default w ↦ w.found-is ∙ (c.loop-place.invariant ∙ sym (next ∙ ap with w.in_default.is))
    ]

pub returns : goal.returns
returns c =
    let test = is_newly_acknowledged c.args.event.now (history_of c.args.before.now) in
    c.loop-place.invariant ∙ at_end (λ part. find (λ (p : Packet). p.number == c.args.number) (filter test (packets part))) c.args.before.now c.loop-place.place c.loop-place-test.false

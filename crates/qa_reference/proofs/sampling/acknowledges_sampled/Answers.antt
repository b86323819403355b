use Rattle.std.proofs.Common.{◌≡◌, ◌∙◌, ◌&&◌, ◌++◌, List, Bool, true, false, Option, sym, ap, take, filter, rules}
use Rattle.std.specs.List.{list_any}
use Rattle.qa_base.specs.machine.Packets.{Packet, history_of, packets, is_newly_acknowledged}
use Rattle.qa_base.specs.machine.Rtt.{gives_sample}
use Rattle.qa_reference.specs.Listed.{listed}
use Rattle.qa_reference.proofs.Filtered.{any_here, any_later}
use Rattle.qa_reference.proofs.Turns.{packet_next, at_end}
use Rattle.qa_reference.proofs.sampling.acknowledges_sampled.Goals as goal
use Rattle.qa_reference.proofs.sampling.acknowledges_sampled.Goals.{in-Some+then-is_newly_acknowledged+then-gives_sample, in-Some+else-is_newly_acknowledged, in_default}

pub loop-place-preserved : goal.loop-place-preserved
loop-place-preserved c =
    let test = is_newly_acknowledged c.args.event.now (history_of c.args.before.now) in
    let asked : Packet → Bool = gives_sample c.args.only c.args.largest in
    let rest = packets (history_of (take c.loop-place.place c.args.before.now)) in
    let some : List Packet → Bool = λ ps. list_any asked (filter test ps) in
    let next = packet_next some c.args.before.now c.loop-place.place c.index-before-place.result c.packet_of.result c.loop-place-test.true c.index-before-place.is c.packet_of.ensures in
    let with = λ (r : Option Packet). some (listed r ++ rest) in
    elim c.match-packet_of.branch [
      | in-Some+then-is_newly_acknowledged+then-gives_sample w ↦ (
          let is : asked w.in-Some.packet ≡ true = search rules in
          w.found-is ∙ sym (next ∙ (ap with w.in-Some.is ∙ any_here asked test w.in-Some.packet rest (sym w.is_newly_acknowledged.ensures ∙ w.if-is_newly_acknowledged.true) is)))
      | in-Some+else-is_newly_acknowledged w ↦ (
          let none : (test w.in-Some.packet && asked w.in-Some.packet) ≡ false = search rules in
          w.found-is ∙ (c.loop-place.invariant ∙ sym (next ∙ (ap with w.in-Some.is ∙ any_later asked test w.in-Some.packet rest none))))
      | in_default w ↦ w.found-is ∙ (c.loop-place.invariant ∙ sym (next ∙ ap with w.in_default.is))
    ]

pub returns : goal.returns
returns c =
    let test = is_newly_acknowledged c.args.event.now (history_of c.args.before.now) in
    c.loop-place.invariant ∙ at_end (λ part. list_any (gives_sample c.args.only c.args.largest) (filter test (packets part))) c.args.before.now c.loop-place.place c.loop-place-test.false

use Rattle.std.proofs.Common.{◌∙◌, ◌∷◌, ◌++◌, List, Bool, Option, sym, ap, take, filter}
use Rattle.std.specs.Prelude.{if◌then◌else◌}
use Rattle.qa_base.specs.machine.Packets.{Packet, history_of, packets, is_some_packet, is_newly_acknowledged}
use Rattle.qa_reference.specs.Listed.{listed}
use Rattle.qa_reference.proofs.Turns.{packet_next, at_end}
use Rattle.qa_reference.proofs.settled.acknowledges_new.Goals as goal
use Rattle.qa_reference.proofs.settled.acknowledges_new.Goals.{in-Some+then-is_newly_acknowledged, in-Some+else-is_newly_acknowledged, in_default}

pub loop-place-preserved : goal.loop-place-preserved
loop-place-preserved c =
    let test = is_newly_acknowledged c.args.event.now (history_of c.args.before.now) in
    let rest = packets (history_of (take c.loop-place.place c.args.before.now)) in
    let some : List Packet → Bool = λ ps. is_some_packet (filter test ps) in
    let next = packet_next some c.args.before.now c.loop-place.place c.index-before-place.result c.packet_of.result c.loop-place-test.true c.index-before-place.is c.packet_of.ensures in
    let with = λ (r : Option Packet). some (listed r ++ rest) in
    let if_new = λ (p : Packet) (b : Bool). is_some_packet (if b then p ∷ filter test rest else filter test rest) in
    elim c.match-packet_of.branch [
      | in-Some+then-is_newly_acknowledged w ↦ w.found-is ∙ sym (next ∙ (ap with w.in-Some.is ∙ ap (if_new w.in-Some.packet) (sym w.is_newly_acknowledged.ensures ∙ w.if-is_newly_acknowledged.true)))
      | in-Some+else-is_newly_acknowledged w ↦ w.found-is ∙ (c.loop-place.invariant ∙ sym (next ∙ (ap with w.in-Some.is ∙ ap (if_new w.in-Some.packet) (sym w.is_newly_acknowledged.ensures ∙ w.if-is_newly_acknowledged.false))))
      | in_default w ↦ w.found-is ∙ (c.loop-place.invariant ∙ sym (next ∙ ap with w.in_default.is))
    ]

pub returns : goal.returns
returns c =
    let test = is_newly_acknowledged c.args.event.now (history_of c.args.before.now) in
    c.loop-place.invariant ∙ at_end (λ part. is_some_packet (filter test (packets part))) c.args.before.now c.loop-place.place c.loop-place-test.false

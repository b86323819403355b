use Rattle.std.proofs.Common.{◌≡◌, ◌∙◌, ◌||◌, ◌++◌, Bool, true, false, Option, sym, ap, take, rules}
use Rattle.std.specs.List.{list_any}
use Rattle.qa_base.specs.machine.Packets.{Packet, history_of, packets_of, is_of}
use Rattle.qa_base.specs.machine.Timer.{awaits_acknowledgment}
use Rattle.qa_reference.specs.Listed.{listed}
use Rattle.qa_reference.proofs.Turns.{passing_next, at_end}
use Rattle.qa_reference.proofs.deadlines.some_awaits.Goals as goal
use Rattle.qa_reference.proofs.deadlines.some_awaits.Goals.{in-Some+then-packet+then-is_open, in-Some+else-packet, in_default}

pub loop-place-preserved : goal.loop-place-preserved
loop-place-preserved c =
    let test = awaits_acknowledgment c.args.header.now (history_of c.args.events.now) in
    let rest = packets_of (history_of (take c.loop-place.place c.args.events.now)) c.args.space in
    let next = passing_next (list_any test) (is_of c.args.space) c.args.events.now c.loop-place.place c.index-events-place.result c.packet_in.result c.loop-place-test.true c.index-events-place.is c.packet_in.ensures in
    let with = λ (r : Option Packet). list_any test (listed r ++ rest) in
    let or = λ (b : Bool). b || list_any test rest in
    elim c.match-packet_in.branch [
      | in-Some+then-packet+then-is_open w ↦ (let here : test w.in-Some.packet ≡ true = search rules in w.found-is ∙ sym (next ∙ (ap with w.in-Some.is ∙ ap or here)))
      | in-Some+else-packet w ↦ (let other : test w.in-Some.packet ≡ false = search rules in w.found-is ∙ (c.loop-place.invariant ∙ sym (next ∙ (ap with w.in-Some.is ∙ ap or other))))
      | in_default w ↦ w.found-is ∙ (c.loop-place.invariant ∙ sym (next ∙ ap with w.in_default.is))
    ]

pub returns : goal.returns
returns c = c.loop-place.invariant ∙ at_end (λ part. list_any (awaits_acknowledgment c.args.header.now (history_of c.args.events.now)) (packets_of part c.args.space)) c.args.events.now c.loop-place.place c.loop-place-test.false

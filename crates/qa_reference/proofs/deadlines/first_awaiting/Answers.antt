use Rattle.std.proofs.Common.{◌∙◌, ◌∷◌, ◌++◌, ℕ, List, Bool, Option, Some, min, unwrap_or, sym, ap, take, filter, map}
use Rattle.std.specs.Prelude.{if◌then◌else◌}
use Rattle.qa_base.specs.machine.Packets.{Packet, history_of, packets_of, is_of, least_of}
use Rattle.qa_base.specs.machine.Timer.{awaits_loss}
use Rattle.qa_reference.specs.Listed.{listed}
use Rattle.qa_reference.proofs.Turns.{passing_next, at_end}
use Rattle.qa_reference.proofs.deadlines.first_awaiting.Goals as goal
use Rattle.qa_reference.proofs.deadlines.first_awaiting.Goals.{in-Some+then-awaits_loss, in-Some+else-awaits_loss, in_default}

pub loop-place-preserved : goal.loop-place-preserved
loop-place-preserved c =
    let test = awaits_loss c.args.header.now (history_of c.args.events.now) in
    let rest = packets_of (history_of (take c.loop-place.place c.args.events.now)) c.args.space in
    let times = λ (ps : List Packet). least_of (map (λ (p : Packet). p.time) ps) in
    let least : List Packet → Option ℕ = λ ps. times (filter test ps) in
    let next = passing_next least (is_of c.args.space) c.args.events.now c.loop-place.place c.index-events-place.result c.packet_in.result c.loop-place-test.true c.index-events-place.is c.packet_in.ensures in
    let with = λ (r : Option Packet). least (listed r ++ rest) in
    let if_awaits = λ (p : Packet) (b : Bool). times (if b then p ∷ filter test rest else filter test rest) in
    let earliest = λ (p : Packet) (least : Option ℕ). Some (min p.time (unwrap_or least p.time)) in
    elim c.match-packet_in.branch [
      | in-Some+then-awaits_loss w ↦ w.least-is ∙ (ap Some w.sooner.ensures ∙ (ap (λ (p : Packet). earliest p c.loop-place.least) w.packet.view_is ∙ (ap (earliest w.in-Some.packet) c.loop-place.invariant
          ∙ sym (next ∙ (ap with w.in-Some.is ∙ ap (if_awaits w.in-Some.packet) (sym w.awaits_loss.ensures ∙ w.if-awaits_loss.true))))))
      | in-Some+else-awaits_loss w ↦ w.least-is ∙ (c.loop-place.invariant ∙ sym (next ∙ (ap with w.in-Some.is ∙ ap (if_awaits w.in-Some.packet) (sym w.awaits_loss.ensures ∙ w.if-awaits_loss.false))))
      | in_default w ↦ w.least-is ∙ (c.loop-place.invariant ∙ sym (next ∙ ap with w.in_default.is))
    ]

pub returns : goal.returns
returns c =
    let test = awaits_loss c.args.header.now (history_of c.args.events.now) in
    c.loop-place.invariant ∙ at_end (λ part. least_of (map (λ (p : Packet). p.time) (filter test (packets_of part c.args.space)))) c.args.events.now c.loop-place.place c.loop-place-test.false

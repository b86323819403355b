use Rattle.std.proofs.Common.{◌≡◌, ◌∙◌, ◌&&◌, ◌++◌, ℕ, List, false, Option, sym, ap, arith, take, filter, fold, rules}
use Rattle.qa_base.specs.machine.Packets.{Packet, history_of, packets, is_newly_acknowledged}
use Rattle.qa_base.specs.machine.Reno.{Control, Grow, moved, sent_mark, grows}
use Rattle.qa_reference.specs.Listed.{listed}
use Rattle.qa_reference.proofs.Filtered.{grows_passing, grows_later}
use Rattle.qa_reference.proofs.Moved.{grown_by}
use Rattle.qa_reference.proofs.Places.{place_of}
use Rattle.qa_reference.proofs.Turns.{packet_next, at_end}
use Rattle.qa_reference.proofs.window.grown.Goals as goal
use Rattle.qa_reference.proofs.window.grown.Goals.{in-Some+then-is_newly_acknowledged+then-packet, in-Some+else-is_newly_acknowledged, in_default}

pub mark-requires : goal.mark-requires
mark-requires c =
    let place = place_of c.loop-place.place c.index-before-place.result c.packet_of.result c.in-Some.packet c.in-Some.is c.packet_of.ensures in
    omega (arith, place, c.loop-place-test.true, c.requires.few)

pub loop-place-preserved : goal.loop-place-preserved
loop-place-preserved c =
    let s = c.args.header.now in
    let d = c.args.header.now.max_datagram_size in
    let test = is_newly_acknowledged c.args.event.now (history_of c.args.before.now) in
    let rest = packets (history_of (take c.loop-place.place c.args.before.now)) in
    let moves = fold (moved d) c.args.reno in
    let after : List Packet → Control = λ ps. moves (grows s (filter test ps)) in
    let next = packet_next after c.args.before.now c.loop-place.place c.index-before-place.result c.packet_of.result c.loop-place-test.true c.index-before-place.is c.packet_of.ensures in
    let with = λ (r : Option Packet). after (listed r ++ rest) in
    let grow = λ (r : Control) (p : Packet). moved d r (Grow p.size (sent_mark s p)) in
    let window = λ (r : Control). r.window in
    let was = c.loop-place.invariant in
    elim c.match-packet_of.branch [
      | in-Some+then-is_newly_acknowledged+then-packet w ↦ (
          let p = w.in-Some.packet in
          let passes = sym w.is_newly_acknowledged.ensures ∙ w.if-is_newly_acknowledged.true in
          let flies = sym (ap (λ (p : Packet). p.in_flight) w.packet.view_is) ∙ w.if-packet.true in
          let new = w.grow_by-reno.ensures in
          let window_is = ap window w.reno-is in
          record {
            value = w.reno-is ∙ (new.value ∙ (ap (λ (t : ℕ). moved d c.loop-place.reno (Grow w.packet.inside.size t)) w.mark.ensures ∙ (ap (λ (q : Packet). moved d c.loop-place.reno (Grow q.size (sent_mark s p))) w.packet.view_is ∙ (ap (λ (r : Control). grow r p) was.value
                ∙ sym (next ∙ (ap with w.in-Some.is ∙ (ap moves (grows_passing s test p rest passes) ∙ grown_by s d c.args.reno p (filter test rest) flies)))))));
            low = omega (arith, window_is, new.low, was.low);
            high = omega (arith, window_is, new.high, was.high);
          })
      | in-Some+else-is_newly_acknowledged w ↦ (
          let none : (test w.in-Some.packet && w.in-Some.packet.in_flight) ≡ false = search rules in
          let window_is = ap window w.reno-is in
          record {
            value = w.reno-is ∙ (was.value ∙ sym (next ∙ (ap with w.in-Some.is ∙ ap moves (grows_later s test w.in-Some.packet rest none))));
            low = omega (arith, window_is, was.low);
            high = omega (arith, window_is, was.high);
          })
      | in_default w ↦ (
          let window_is = ap window w.reno-is in
          record {
            value = w.reno-is ∙ (was.value ∙ sym (next ∙ ap with w.in_default.is));
            low = omega (arith, window_is, was.low);
            high = omega (arith, window_is, was.high);
          })
    ]

pub returns-clause-value : goal.returns-clause-value
returns-clause-value c =
    let s = c.args.header.now in
    let test = is_newly_acknowledged c.args.event.now (history_of c.args.before.now) in
    c.loop-place.invariant.value ∙ at_end (λ part. fold (moved c.args.header.now.max_datagram_size) c.args.reno (grows s (filter test (packets part)))) c.args.before.now c.loop-place.place c.loop-place-test.false

use Rattle.std.proofs.Common.{◌∙◌, ◌++◌, ℕ, Option, Some, max, unwrap_or, sym, ap, arith, take}
use Rattle.qa_base.specs.machine.Packets.{Packet, history_of}
use Rattle.qa_base.specs.machine.Reno.{sent_mark}
use Rattle.qa_reference.specs.Listed.{listed}
use Rattle.qa_reference.specs.Looks.{is_lost_by, lost_in}
use Rattle.qa_reference.specs.Words.{last_sending}
use Rattle.qa_reference.proofs.Places.{place_of_passing}
use Rattle.qa_reference.proofs.Taken.{lost_seen}
use Rattle.qa_reference.proofs.Turns.{passing_next, at_end}
use Rattle.qa_reference.proofs.window.last_lost.Goals as goal
use Rattle.qa_reference.proofs.window.last_lost.Goals.{in-Some, in_default}

pub mark-requires : goal.mark-requires
mark-requires c =
    let place = place_of_passing c.loop-place.place c.index-events-place.result (is_lost_by (history_of c.args.events.now) c.args.losses) c.lost_of.result c.in-Some.packet c.in-Some.is c.lost_of.ensures in
    omega (arith, place, c.loop-place-test.true, c.requires.few)

pub loop-place-preserved : goal.loop-place-preserved
loop-place-preserved c =
    let s = c.args.header.now in
    let h = history_of c.args.events.now in
    let rest = lost_in h c.args.losses (history_of (take c.loop-place.place c.args.events.now)) in
    let next = passing_next (last_sending s) (is_lost_by h c.args.losses) c.args.events.now c.loop-place.place c.index-events-place.result c.lost_of.result c.loop-place-test.true c.index-events-place.is c.lost_of.ensures in
    let with = λ (r : Option Packet). last_sending s (listed r ++ rest) in
    let latest = λ (p : Packet) (last : Option ℕ). Some (max (sent_mark s p) (unwrap_or last 0)) in
    elim c.match-lost_of.branch [
      | in-Some w ↦ w.last-is ∙ (ap Some w.later.ensures ∙ (ap (λ (t : ℕ). Some (max t (unwrap_or c.loop-place.last 0))) w.mark.ensures ∙ (ap (latest w.in-Some.packet) c.loop-place.invariant ∙ sym (next ∙ ap with w.in-Some.is))))
      | in_default w ↦ w.last-is ∙ (c.loop-place.invariant ∙ sym (next ∙ ap with w.in_default.is))
    ]

pub returns : goal.returns
returns c =
    let s = c.args.header.now in
    let h = history_of c.args.events.now in
    c.loop-place.invariant ∙ (at_end (λ part. last_sending s (lost_in h c.args.losses part)) c.args.events.now c.loop-place.place c.loop-place-test.false
    ∙ sym (ap (last_sending s) (lost_seen c.args.header.now h c.args.losses c.requires.seen)))

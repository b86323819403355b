use Rattle.std.proofs.Common.{◌∙◌, ◌∷◌, ℕ, List, [], Bool, Option, sym, ap, fold, arith}
use Rattle.std.specs.Prelude.{if◌then◌else◌}
use Rattle.qa_base.specs.machine.Loss.{declared, is_persistent}
use Rattle.qa_base.specs.machine.Moments.{detection_of}
use Rattle.qa_base.specs.machine.Packets.{history_of, newly_acknowledged}
use Rattle.qa_base.specs.machine.Reno.{Control, Move, event_mark, moved, grows, persistent_congestions, is_app_limited}
use Rattle.qa_reference.specs.Words.{last_sending, hits_at}
use Rattle.qa_reference.proofs.Moved.{window_in_range, reno_moved}
use Rattle.qa_reference.proofs.window.reno_after.Goals as goal

pub hit_by-on_congestion_event-requires : goal.hit_by-on_congestion_event-requires
hit_by-on_congestion_event-requires c = record {
  low = (window_in_range c.args.header.now c.args.before.now c.args.reno c.requires.range c.requires.fit c.requires.few c.requires.known).0;
}

pub grown_unless_app_limited-requires-clause-high : goal.grown_unless_app_limited-requires-clause-high
grown_unless_app_limited-requires-clause-high c =
    let high = (window_in_range c.args.header.now c.args.before.now c.args.reno c.requires.range c.requires.fit c.requires.few c.requires.known).1 in
    omega (arith, high)

-- Written out, so that a wrong body is refused at these lines.
pub grown_unless_app_limited-requires-clause-low : goal.grown_unless_app_limited-requires-clause-low
grown_unless_app_limited-requires-clause-low c = c.collapsed-collapsed.ensures.low

pub returns : goal.returns
returns c =
    let s = c.args.header.now in
    let e = c.args.event.now in
    let h = history_of c.args.before.now in
    let after = λ (r : Control) (ms : List Move). fold (moved s.max_datagram_size) r ms in
    let grown : List Move = if is_app_limited e then [] else grows s (newly_acknowledged (e ∷ h)) in
    let lost = c.requires.lost.0 in
    let persistent = c.requires.lost.1 in
    let on_congestion_event =
    c.hit_by-on_congestion_event.ensures.value
    ∙ (ap (λ (t : ℕ). after c.args.reno (hits_at t c.args.congestion.last_sent)) c.detection_mark-now.ensures
    ∙ (ap (λ (o : Option ℕ). after c.args.reno (hits_at (event_mark s (detection_of (e ∷ h))) o)) lost
    ∙ ap (λ (r : Control). after r (hits_at (event_mark s (detection_of (e ∷ h))) (last_sending s (declared s (e ∷ h))))) c.requires.known)) in
    let collapsed =
    c.collapsed-collapsed.ensures.value
    ∙ (ap (λ (b : Bool). after c.hit_by-on_congestion_event.result (persistent_congestions b)) persistent
    ∙ ap (λ (r : Control). after r (persistent_congestions (is_persistent s (e ∷ h)))) on_congestion_event) in
    c.grown_unless_app_limited.ensures.value
    ∙ (ap (λ (r : Control). after r grown) collapsed ∙ sym (reno_moved s e h))

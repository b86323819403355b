-- What a run does with its window: it falls only by losses, and is halved once for the losses of one flight.
use Rattle.std.proofs.Common.{◌≡◌, ◌∙◌, ◌+◌, ◌<◌, ◌≤◌, ℕ, List, [], ◌∷◌, ◌++◌, map, fold, filter, reverse, Bool, true, false, Option, Some, None, length, refl, ap, arith, subst, inl, inr, ◌⊎◌}
use Rattle.std.proofs.lemmas.Bool.{both_ways, ltb-true, ltb-false}
use Rattle.std.specs.Prelude.{nat_lt, if◌then◌else◌}
use Rattle.qa_base.specs.declared.event.Event.{Event}
use Rattle.qa_laws.specs.machine.Conduct.{NoCollapse, IsSentAfter, is_entered_by}
use Rattle.qa_base.specs.values.Events.{time_of}
use Rattle.qa_base.specs.machine.Loss.{declared, owed, is_persistent}
use Rattle.qa_base.specs.machine.Estimates.{sampled}
use Rattle.qa_base.specs.machine.Moments.{before_last, detection_of, last_time}
use Rattle.qa_base.specs.machine.Packets.{Packet, newly_acknowledged}
use Rattle.qa_base.specs.machine.Reno.{Control, is_outside_recovery, on_congestion_event, on_persistent_congestion, growth, Move, Grow, latest_sent, congestion_events, persistent_congestions, grows, is_app_limited, moves_of_last, moved, reno, enters, is_entry, event_mark, sent_mark}
use Rattle.qa_base.specs.machine.Rules.{IsRun}
use Rattle.qa_base.specs.values.Settings.{Settings, is_may}
use Rattle.qa_base.proofs.history.Pairs.{has_first, has_later}
use Rattle.qa_base.proofs.machine.Declared.{must_declared_by}
use Rattle.qa_base.proofs.machine.Quiet.{not_persistent}
use Rattle.qa_base.proofs.machine.RunLaws.{all_hold, prefix_of_run}
use Rattle.std.proofs.lemmas.List.{length-append}
use Rattle.qa_base.specs.declared.event.Event.TheVariants.{Lost}
use Rattle.qa_base.proofs.machine.Steps.{reno_after}
use Rattle.qa_base.proofs.machine.WindowBound.{grow_at_least}

-- ---- it falls by losses alone

abbrev pub growths : Settings → List Packet → List Move
growths c ps = map (λ p. Grow p.size (sent_mark c p)) ps

grown : (c : Settings) (d : ℕ) (r : Control) (ps : List Packet) → r.window ≤ (fold (moved d) r (growths c ps)).window
grown c d r [] = omega arith
grown c d r (p ∷ ps) =
    let here = grow_at_least d p.size r (is_outside_recovery r.recovery_start_time (sent_mark c p)) in
    let rest = grown c d (moved d r (Grow p.size (sent_mark c p))) ps in
    omega (arith, here, rest)

no_collapse : (c : Settings) (h : List Event) → declared c h ≡ [] → is_persistent c h ≡ false
no_collapse c h none = not_persistent (sampled c h) c h none

grown_if : (c : Settings) (d : ℕ) (r : Control) (app_limited : Bool) (new : List Packet) → r.window ≤ (fold (moved d) r (if app_limited then [] else grows c new)).window
grown_if c d r true new = omega arith
grown_if c d r false new = grown c d r (reverse (filter (λ p. p.in_flight) new))

unless_lost : (c : Settings) (d now : ℕ) (r : Control) (ps : List Packet) (persistent app_limited : Bool) (new : List Packet) → ps ≡ [] → persistent ≡ false
    → r.window ≤ (fold (moved d) r (congestion_events c now ps ++ persistent_congestions persistent ++ (if app_limited then [] else grows c new))).window
unless_lost c d now r [] false app_limited new none calm = grown_if c d r app_limited new
unless_lost c d now r [] true app_limited new none calm = cc
unless_lost c d now r (p ∷ ps) persistent app_limited new none calm = cc

-- where an event leaves a lower window, packets are lost by it
pub lower_by_loss : (c : Settings) (e : Event) (h : List Event) → (reno c (e ∷ h)).window < (reno c h).window → declared c (e ∷ h) ≡ [] → ⊥
lower_by_loss c e h lower none =
    let least : (reno c h).window ≤ (fold (moved c.max_datagram_size) (reno c h) (moves_of_last c (e ∷ h))).window =
    unless_lost c c.max_datagram_size (event_mark c (detection_of (e ∷ h))) (reno c h) (declared c (e ∷ h)) (is_persistent c (e ∷ h)) (is_app_limited e) (newly_acknowledged (e ∷ h)) none (no_collapse c (e ∷ h) none) in
    let same : (reno c (e ∷ h)).window ≡ (fold (moved c.max_datagram_size) (reno c h) (moves_of_last c (e ∷ h))).window = ap (λ (r : Control). r.window) (reno_after c e h) in
    omega (arith, lower, least, same)

-- ---- when recovery began

pub grow_keeps : (d size : ℕ) (r : Control) (here : Bool)
    → (if here then record { window = r.window + growth d size r; ssthresh = r.ssthresh; recovery_start_time = r.recovery_start_time } else r).recovery_start_time ≡ r.recovery_start_time
grow_keeps d size r true = refl
grow_keeps d size r false = refl

pub growths_keep : (c : Settings) (d : ℕ) (r : Control) (ps : List Packet) → (fold (moved d) r (growths c ps)).recovery_start_time ≡ r.recovery_start_time
growths_keep c d r [] = refl
growths_keep c d r (p ∷ ps) = growths_keep c d (moved d r (Grow p.size (sent_mark c p))) ps ∙ grow_keeps d p.size r (is_outside_recovery r.recovery_start_time (sent_mark c p))

pub growths_if : (c : Settings) (d : ℕ) (r : Control) (app_limited : Bool) (new : List Packet) → (fold (moved d) r (if app_limited then [] else grows c new)).recovery_start_time ≡ r.recovery_start_time
growths_if c d r true new = refl
growths_if c d r false new = growths_keep c d r (reverse (filter (λ p. p.in_flight) new))

pub hit_by : (d last_sent now : ℕ) (r : Control) (here : Bool) → is_outside_recovery r.recovery_start_time last_sent ≡ here
    → (on_congestion_event d last_sent now r).recovery_start_time ≡ (if here then Some now else r.recovery_start_time)
hit_by d last_sent now r true is = rw is refl
hit_by d last_sent now r false is = rw is refl

-- recovery after the moves of an event that does not collapse the window
abbrev begun : Settings → Option ℕ → ℕ → List Packet → Option ℕ
begun c recovery now [] = recovery
begun c recovery now (p ∷ ps) = if is_outside_recovery recovery (latest_sent c (p ∷ ps)) then Some now else recovery

recovery_by : (c : Settings) (d now : ℕ) (r : Control) (ps : List Packet) (persistent app_limited : Bool) (new : List Packet)
    → (fold (moved d) r (congestion_events c now ps ++ persistent_congestions persistent ++ (if app_limited then [] else grows c new))).recovery_start_time ≡ (if persistent then None else begun c r.recovery_start_time now ps)
recovery_by c d now r [] true app_limited new = growths_if c d (on_persistent_congestion d r) app_limited new
recovery_by c d now r (p ∷ ps) true app_limited new = growths_if c d (on_persistent_congestion d (on_congestion_event d (latest_sent c (p ∷ ps)) now r)) app_limited new
recovery_by c d now r [] false app_limited new = growths_if c d r app_limited new
recovery_by c d now r (p ∷ ps) false app_limited new =
    growths_if c d (on_congestion_event d (latest_sent c (p ∷ ps)) now r) app_limited new ∙ hit_by d (latest_sent c (p ∷ ps)) now r (is_outside_recovery r.recovery_start_time (latest_sent c (p ∷ ps))) refl

recovery_is : (c : Settings) (e : Event) (h : List Event)
    → (reno c (e ∷ h)).recovery_start_time ≡ (if is_persistent c (e ∷ h) then None else begun c (reno c h).recovery_start_time (event_mark c (detection_of (e ∷ h))) (declared c (e ∷ h)))
recovery_is c e h =
    ap (λ (r : Control). r.recovery_start_time) (reno_after c e h)
    ∙ recovery_by c c.max_datagram_size (event_mark c (detection_of (e ∷ h))) (reno c h) (declared c (e ∷ h)) (is_persistent c (e ∷ h)) (is_app_limited e) (newly_acknowledged (e ∷ h))

recovery_after : (c : Settings) (e : Event) (h : List Event) → is_persistent c (e ∷ h) ≡ false
    → (reno c (e ∷ h)).recovery_start_time ≡ begun c (reno c h).recovery_start_time (event_mark c (detection_of (e ∷ h))) (declared c (e ∷ h))
recovery_after c e h calm =
    recovery_is c e h ∙ ap (λ (b : Bool). if b then None else begun c (reno c h).recovery_start_time (event_mark c (detection_of (e ∷ h))) (declared c (e ∷ h))) calm

-- ---- entries

never_by_growth : (c : Settings) (recovery : Option ℕ) (ps : List Packet) → enters recovery (growths c ps) ≡ false
never_by_growth c recovery [] = refl
never_by_growth c recovery (p ∷ ps) = refl

never_by_growths : (c : Settings) (recovery : Option ℕ) (app_limited : Bool) (new : List Packet) → enters recovery (if app_limited then [] else grows c new) ≡ false
never_by_growths c recovery true new = refl
never_by_growths c recovery false new = never_by_growth c recovery (reverse (filter (λ p. p.in_flight) new))

-- packets are lost of which the last was sent outside recovery
abbrev Enters : Settings → Option ℕ → List Packet → Type 0
Enters c recovery ps = (p : Packet) × (rest : List Packet) × (ps ≡ p ∷ rest) × (is_outside_recovery recovery (latest_sent c ps) ≡ true)

enters_by : (c : Settings) (recovery : Option ℕ) (now : ℕ) (ps : List Packet) (persistent app_limited : Bool) (new : List Packet) → (ps ≡ [] → persistent ≡ false)
    → enters recovery (congestion_events c now ps ++ persistent_congestions persistent ++ (if app_limited then [] else grows c new)) ≡ true → Enters c recovery ps
enters_by c recovery now [] false app_limited new calm is = absurd (both_ways (enters recovery (if app_limited then [] else grows c new)) (never_by_growths c recovery app_limited new) is)
enters_by c recovery now [] true app_limited new calm is = let never = calm refl in cc
enters_by c recovery now (p ∷ ps) persistent app_limited new calm is = (p, ps, refl, is)

entry_is : (c : Settings) (h : List Event) → is_entry c h ≡ true → Enters c (reno c (before_last (detection_of h))).recovery_start_time (declared c h)
entry_is c [] is = cc
entry_is c (e ∷ h) is =
    enters_by c (reno c (before_last (detection_of (e ∷ h)))).recovery_start_time (event_mark c (detection_of (e ∷ h))) (declared c (e ∷ h)) (is_persistent c (e ∷ h)) (is_app_limited e) (newly_acknowledged (e ∷ h))
    (no_collapse c (e ∷ h)) is

begun_now : (c : Settings) (recovery : Option ℕ) (now : ℕ) (ps : List Packet) → Enters c recovery ps → begun c recovery now ps ≡ Some now
begun_now c recovery now [] (p, rest, some, outside) = cc
begun_now c recovery now (q ∷ ps) (p, rest, some, outside) = rw outside refl

-- recovery began at a time or later
abbrev BeganSince : ℕ → Option ℕ → Type 0
BeganSince first recovery = (t : ℕ) × (recovery ≡ Some t) × (first ≤ t)

begun_since : (c : Settings) (first now : ℕ) (recovery : Option ℕ) (ps : List Packet) (outside : Bool) → is_outside_recovery recovery (latest_sent c ps) ≡ outside
    → first ≤ now → BeganSince first recovery → BeganSince first (begun c recovery now ps)
begun_since c first now recovery [] outside is late before = before
begun_since c first now recovery (p ∷ ps) true is late before = rw is (now, refl, late)
begun_since c first now recovery (p ∷ ps) false is late before = rw is before

-- no event of a run is earlier than one before it
pub times_rise : (c : Settings) (e f : Event) (between h : List Event) → IsRun c (e ∷ between ++ f ∷ h) → time_of f ≤ time_of e
times_rise c e f [] h run = ltb-false (time_of e) (time_of f) (all_hold c (f ∷ h) e run.1).time_back
times_rise c e f (d ∷ between) h run =
    let here = ltb-false (time_of e) (time_of d) (all_hold c (d ∷ between ++ f ∷ h) e run.1).time_back in
    let rest = times_rise c d f between h run.0 in
    omega (arith, here, rest)

-- by order and by time
mark_most : (by_order : Bool) (m n s t : ℕ) → m ≤ n → s ≤ t → (if by_order then m else s) ≤ (if by_order then n else t)
mark_most true m n s t placed timed = placed
mark_most false m n s t placed timed = timed

-- the detection of what is lost by an event is no later than it
detection_before : (c : Settings) (f : Event) (h : List Event) → IsRun c (f ∷ h) → event_mark c (detection_of (f ∷ h)) ≤ event_mark c (f ∷ h)
detection_before c (Lost time space ranges) [] run = mark_most c.options.recovery_by_order 0 0 0 time (omega arith) (omega arith)
detection_before c (Lost time space ranges) (d ∷ h) run =
    mark_most c.options.recovery_by_order (length h) (length (d ∷ h)) (time_of d) time (omega arith)
    (ltb-false time (time_of d) (all_hold c (d ∷ h) (Lost time space ranges) run.1).time_back)
detection_before c f h run = omega arith

stands_behind : (f : Event) (between h : List Event) → length h ≤ length (between ++ f ∷ h)
stands_behind f between h = let sum : length (between ++ f ∷ h) ≡ length between + length (f ∷ h) = length-append between (f ∷ h) in omega (arith, sum)

place_behind : (f : Event) (between h : List Event) → length h ≤ length (before_last (between ++ f ∷ h))
place_behind f [] h = omega arith
place_behind f (d ∷ between) h = stands_behind f between h

last_behind : (c : Settings) (f : Event) (between h : List Event) → IsRun c (between ++ f ∷ h) → time_of f ≤ last_time (between ++ f ∷ h)
last_behind c f [] h run = omega arith
last_behind c f (d ∷ between) h run = times_rise c d f between h run

-- and no earlier than what stands before that
detection_behind : (c : Settings) (e f : Event) (between h : List Event) → IsRun c (e ∷ between ++ f ∷ h) → event_mark c (f ∷ h) ≤ event_mark c (detection_of (e ∷ between ++ f ∷ h))
detection_behind c (Lost time space ranges) f between h run =
    mark_most c.options.recovery_by_order (length h) (length (before_last (between ++ f ∷ h))) (time_of f) (last_time (between ++ f ∷ h)) (place_behind f between h) (last_behind c f between h run.0)
detection_behind c e f between h run =
    mark_most c.options.recovery_by_order (length h) (length (between ++ f ∷ h)) (time_of f) (time_of e) (stands_behind f between h) (times_rise c e f between h run)

begun_either : (c : Settings) (recovery : Option ℕ) (now : ℕ) (ps : List Packet) → (begun c recovery now ps ≡ recovery) ⊎ (begun c recovery now ps ≡ Some now)
begun_either c recovery now [] = inl refl
begun_either c recovery now (p ∷ ps) = either_if (is_outside_recovery recovery (latest_sent c (p ∷ ps)))
  where
    either_if : (b : Bool) → ((if b then Some now else recovery) ≡ recovery) ⊎ ((if b then Some now else recovery) ≡ Some now)
    either_if true = inr refl
    either_if false = inl refl

begun_again : (c : Settings) (now : ℕ) (ps : List Packet) → begun c (Some now) now ps ≡ Some now
begun_again c now ps = elim (begun_either c (Some now) now ps) [
  | inl same ↦ same
  | inr anew ↦ anew
]

-- a detection that is completed enters by when recovery began before it, whatever the detection itself did
begun_twice : (c : Settings) (now : ℕ) (before recovery : Option ℕ) (found lost : List Packet) (persistent : Bool) → recovery ≡ (if persistent then None else begun c before now found) → Enters c before lost
    → begun c recovery now lost ≡ Some now
begun_twice c now before recovery found lost true is (p, rest, some, outside) = rw (is, some) refl
begun_twice c now before recovery found lost false is enter = elim (begun_either c before now found) [
  | inl same ↦ rw (is ∙ same) (begun_now c before now lost enter)
  | inr anew ↦ rw (is ∙ anew) (begun_again c now lost)
]

completes_nothing : (A : Type 0) (p : Packet) (rest : List Packet) → ◌≡◌ {A = List Packet} [] (p ∷ rest) → A
completes_nothing A p rest is = cc

-- recovery begins at the detection of what is lost by an entry
begins_there : (c : Settings) (f : Event) (h : List Event) → Enters c (reno c (before_last (detection_of (f ∷ h)))).recovery_start_time (declared c (f ∷ h))
    → begun c (reno c h).recovery_start_time (event_mark c (detection_of (f ∷ h))) (declared c (f ∷ h)) ≡ Some (event_mark c (detection_of (f ∷ h)))
begins_there c (Lost time space ranges) [] enter = begun_now c (reno c []).recovery_start_time (event_mark c []) (declared c (Lost time space ranges ∷ [])) enter
begins_there c (Lost time space ranges) (Lost before others numbers ∷ h) (p, rest, some, outside) =
    completes_nothing (begun c (reno c (Lost before others numbers ∷ h)).recovery_start_time (event_mark c (Lost before others numbers ∷ h)) [] ≡ Some (event_mark c (Lost before others numbers ∷ h))) p rest some
begins_there c (Lost time space ranges) (d ∷ h) enter =
    begun_twice c (event_mark c (d ∷ h)) (reno c h).recovery_start_time (reno c (d ∷ h)).recovery_start_time (declared c (d ∷ h)) (declared c (Lost time space ranges ∷ d ∷ h)) (is_persistent c (d ∷ h)) (recovery_is c d h) enter
begins_there c f h enter = begun_now c (reno c h).recovery_start_time (event_mark c (f ∷ h)) (declared c (f ∷ h)) enter

began : (c : Settings) (f : Event) (between h : List Event) → IsRun c (between ++ f ∷ h) → is_entry c (f ∷ h) ≡ true → NoCollapse c between (f ∷ h)
    → BeganSince (event_mark c (detection_of (f ∷ h))) (reno c (between ++ f ∷ h)).recovery_start_time
began c f [] h run first calm =
    (event_mark c (detection_of (f ∷ h)), recovery_after c f h (calm [] [] refl) ∙ begins_there c f h (entry_is c (f ∷ h) first), (omega arith))
began c f (d ∷ between) h run first calm =
    let before = began c f between h run.0 first (λ later earlier is. calm (d ∷ later) earlier (ap (λ k. d ∷ k) is)) in
    let g = between ++ f ∷ h in
    let now = event_mark c (detection_of (d ∷ g)) in
    let start = detection_before c f h (prefix_of_run c between (f ∷ h) run.0) in
    let late = detection_behind c d f between h run in
    rw (recovery_after c d g (calm [] (d ∷ between) refl))
    (begun_since c (event_mark c (detection_of (f ∷ h))) now (reno c g).recovery_start_time (declared c (d ∷ g)) (is_outside_recovery (reno c g).recovery_start_time (latest_sent c (declared c (d ∷ g)))) refl
    (omega (arith, start, late)) before)

later_if : (c : Settings) (t : ℕ) (p : Packet) (ps : List Packet) (here : Bool) → nat_lt t (sent_mark c p) ≡ here → t < latest_sent c (p ∷ ps) → (t < latest_sent c ps → IsSentAfter c t ps)
    → IsSentAfter c t (p ∷ ps)
later_if c t p ps true is late rest = record { packet = p; found = has_first p ps; after = ltb-true t (sent_mark c p) is }
later_if c t p ps false is late rest =
    let not_here = ltb-false t (sent_mark c p) is in
    let found = rest (omega (arith, late, not_here)) in
    record { packet = found.packet; found = has_later p found.packet ps found.found; after = found.after }

some_later : (c : Settings) (t : ℕ) (ps : List Packet) → t < latest_sent c ps → IsSentAfter c t ps
some_later c t [] late = absurd (omega (arith, late))
some_later c t (p ∷ ps) late = later_if c t p ps (nat_lt t (sent_mark c p)) refl late (some_later c t ps)

later_from : (c : Settings) (first : ℕ) (recovery : Option ℕ) (ps : List Packet) → BeganSince first recovery → Enters c recovery ps → IsSentAfter c first ps
later_from c first recovery ps (t, at, since) (p, rest, some, outside) =
    let late : is_outside_recovery (Some t) (latest_sent c ps) ≡ true = rw at at outside in
    let after = ltb-true t (latest_sent c ps) late in
    some_later c first ps (omega (arith, after, since))

-- of two entries of different detections, with no collapse between, the second has a loss that was sent after the detection of the first
pub halved_once : (c : Settings) (e f : Event) (between h : List Event) → IsRun c (e ∷ between ++ f ∷ h) → is_entry c (f ∷ h) ≡ true → is_entry c (e ∷ between ++ f ∷ h) ≡ true
    → (detection_of (e ∷ between ++ f ∷ h) ≡ f ∷ h → ⊥) → NoCollapse c between (f ∷ h)
    → IsSentAfter c (event_mark c (detection_of (f ∷ h))) (declared c (e ∷ between ++ f ∷ h))
halved_once c (Lost time space ranges) f [] h run first second other calm = absurd (other refl)
halved_once c (Lost time space ranges) f (d ∷ between) h run first second other calm =
    let g = between ++ f ∷ h in
    let e = Lost time space ranges in
    later_from c (event_mark c (detection_of (f ∷ h))) (reno c g).recovery_start_time (declared c (e ∷ d ∷ g))
    (began c f between h run.0.0 first (λ later earlier is. calm (d ∷ later) earlier (ap (λ k. d ∷ k) is)))
    (entry_is c (e ∷ d ∷ g) second)
halved_once c e f between h run first second other calm =
    let g = between ++ f ∷ h in
    later_from c (event_mark c (detection_of (f ∷ h))) (reno c g).recovery_start_time (declared c (e ∷ g)) (began c f between h run.0 first calm) (entry_is c (e ∷ g) second)

-- ---- an event enters recovery by what is lost by it

no_entry : (c : Settings) (recovery : Option ℕ) (is_collapse is_app_limited : Bool) (ps : List Packet)
    → enters recovery ([] ++ persistent_congestions is_collapse ++ (if is_app_limited then [] else growths c ps)) ≡ false
no_entry c recovery true is_app_limited ps = refl
no_entry c recovery false true ps = refl
no_entry c recovery false false [] = refl
no_entry c recovery false false (p ∷ ps) = refl

entered_by : (c : Settings) (recovery : Option ℕ) (now : ℕ) (lost : List Packet) (is_collapse is_app_limited : Bool) (ps : List Packet)
    → enters recovery (congestion_events c now lost ++ persistent_congestions is_collapse ++ (if is_app_limited then [] else growths c ps)) ≡ is_entered_by c recovery lost
entered_by c recovery now [] is_collapse is_app_limited ps = no_entry c recovery is_collapse is_app_limited ps
entered_by c recovery now (p ∷ lost) is_collapse is_app_limited ps = refl

pub entry_by_losses : (c : Settings) (h : List Event) → is_entry c h ≡ is_entered_by c (reno c (before_last (detection_of h))).recovery_start_time (declared c h)
entry_by_losses c [] = refl
entry_by_losses c (e ∷ h) =
    entered_by c (reno c (before_last (detection_of (e ∷ h)))).recovery_start_time (event_mark c (detection_of (e ∷ h))) (declared c (e ∷ h)) (is_persistent c (e ∷ h)) (is_app_limited e)
    (reverse (filter (λ p. p.in_flight) (newly_acknowledged (e ∷ h))))

-- ---- where losses by number must be declared

-- what an event finds lost is what is lost by it
pub must_entry_by_losses : (c : Settings) (e : Event) (h : List Event) → is_may c.options.loss_by_number ≡ false → is_entry c (e ∷ h) ≡ is_entered_by c (reno c h).recovery_start_time (owed c (e ∷ h))
must_entry_by_losses c (Lost time space ranges) h must =
    let e = Lost time space ranges in
    entry_by_losses c (e ∷ h) ∙ ap (is_entered_by c (reno c (before_last h)).recovery_start_time) (must_declared_by c (sampled c (e ∷ h)) e h must)
must_entry_by_losses c e h must = entry_by_losses c (e ∷ h) ∙ ap (is_entered_by c (reno c h).recovery_start_time) (must_declared_by c (sampled c (e ∷ h)) e h must)

-- so a Lost line is no entry
must_time : (c : Settings) (f : Event) (h : List Event) → is_may c.options.loss_by_number ≡ false → is_entry c (f ∷ h) ≡ true → event_mark c (detection_of (f ∷ h)) ≡ event_mark c (f ∷ h)
must_time c (Lost time space ranges) h must first = let never = must_entry_by_losses c (Lost time space ranges) h must in absurd (both_ways (is_entry c (Lost time space ranges ∷ h)) never first)
must_time c f h must first = refl

longer : (e f : Event) (between h : List Event) → e ∷ between ++ f ∷ h ≡ f ∷ h → ⊥
longer e f between h is =
    let more : length (between ++ f ∷ h) ≡ length between + length (f ∷ h) = length-append between (f ∷ h) in
    let same : length (e ∷ between ++ f ∷ h) ≡ length (f ∷ h) = ap length is in
    omega (arith, more, same)

must_differ : (c : Settings) (e f : Event) (between h : List Event) → is_may c.options.loss_by_number ≡ false → is_entry c (e ∷ between ++ f ∷ h) ≡ true → detection_of (e ∷ between ++ f ∷ h) ≡ f ∷ h → ⊥
must_differ c (Lost time space ranges) f between h must second is =
    let never = must_entry_by_losses c (Lost time space ranges) (between ++ f ∷ h) must in both_ways (is_entry c (Lost time space ranges ∷ between ++ f ∷ h)) never second
must_differ c e f between h must second is = longer e f between h is

pub must_halve_once : (c : Settings) (e f : Event) (between h : List Event) → is_may c.options.loss_by_number ≡ false → IsRun c (e ∷ between ++ f ∷ h) → is_entry c (f ∷ h) ≡ true
    → is_entry c (e ∷ between ++ f ∷ h) ≡ true → NoCollapse c between (f ∷ h) → IsSentAfter c (event_mark c (f ∷ h)) (owed c (e ∷ between ++ f ∷ h))
must_halve_once c e f between h must run first second calm =
    let g = between ++ f ∷ h in
    subst (λ (t : ℕ). IsSentAfter c t (owed c (e ∷ g))) (must_time c f h must first)
    (subst (λ (ps : List Packet). IsSentAfter c (event_mark c (detection_of (f ∷ h))) ps) (must_declared_by c (sampled c (e ∷ g)) e g must)
    (halved_once c e f between h run first second (must_differ c e f between h must second) calm))

-- and only what it finds lost lowers the window
pub must_lower_by_loss : (c : Settings) (e : Event) (h : List Event) → is_may c.options.loss_by_number ≡ false → (reno c (e ∷ h)).window < (reno c h).window → owed c (e ∷ h) ≡ [] → ⊥
must_lower_by_loss c e h must lower none = lower_by_loss c e h lower (must_declared_by c (sampled c (e ∷ h)) e h must ∙ none)

-- NewReno's own window shows each collapse: it is at most two datagrams and what was acknowledged since.
use Rattle.std.proofs.Common.{◌≡◌, ◌+◌, ◌*◌, ◌<◌, ◌≤◌, ◌&&◌, ◌==◌, ℕ, List, [], ◌∷◌, ◌++◌, map, fold, filter, reverse, Bool, true, false, Option, Some, None, option_map, refl, sym, ap, arith, subst, sum_by}
use Rattle.std.proofs.lemmas.Bool.{le-ltb}
use Rattle.std.proofs.lemmas.List.Sums.{sum_by-cons}
use Rattle.std.specs.Prelude.{if◌then◌else◌}
use Rattle.qa_base.specs.declared.event.Event.{Event}
use Rattle.qa_base.specs.declared.event.Event.TheVariants.{Metrics}
use Rattle.qa_base.specs.declared.event.MetricValues.{MetricValues}
use Rattle.qa_base.specs.machine.Breaches.{is_above_collapse, is_collapse_missing}
use Rattle.qa_base.specs.machine.Loss.{declared, is_persistent}
use Rattle.qa_base.specs.machine.Packets.{Packet, newly_acknowledged}
use Rattle.qa_base.specs.machine.Reno.{Control, Grow, Move, on_persistent_congestion, persistent_congestions, grows, on_congestion_event, congestion_events, is_app_limited, is_outside_recovery, latest_sent, moved, reno, event_mark, sent_mark}
use Rattle.qa_base.specs.machine.Window.{acknowledged_bytes, acknowledged_since_collapse, changes_window, other_window, reported_window, unless_same}
use Rattle.qa_base.specs.machine.Moments.{detection_of}
use Rattle.qa_base.proofs.machine.Quiet.{newly-quiet}
use Rattle.qa_base.specs.declared.event.Event.TheVariants.{Lost}
use Rattle.qa_base.specs.values.Settings.{AreInRange, Settings, is_reported}
use Rattle.qa_base.proofs.machine.Collapses.{since_collapse_after}
use Rattle.qa_base.proofs.machine.Steps.{reno_after}
use Rattle.qa_base.proofs.machine.WindowBound.{grow_at_least, grown_little, window_low}
use Rattle.qa_base.proofs.history.Sending.{sum_turned}

-- ---- growth is by the bytes in flight that are acknowledged

abbrev growths : Settings → List Packet → List Move
growths c ps = map (λ p. Grow p.size (sent_mark c p)) ps

grown_by : (c : Settings) (d : ℕ) (r : Control) (ps : List Packet) → 0 < d → 2 * d ≤ r.window → (fold (moved d) r (growths c ps)).window ≤ r.window + sum_by (λ p. p.size) ps
grown_by c d r [] some low = omega arith
grown_by c d r (p ∷ ps) some low =
    let here = grown_little d r p.size (sent_mark c p) some low in
    let least = grow_at_least d p.size r (is_outside_recovery r.recovery_start_time (sent_mark c p)) in
    let rest = grown_by c d (moved d r (Grow p.size (sent_mark c p))) ps some (omega (arith, low, least)) in
    let sum : sum_by (λ (q : Packet). q.size) (p ∷ ps) ≡ p.size + sum_by (λ (q : Packet). q.size) ps = sum_by-cons (λ (q : Packet). q.size) p ps in
    omega (arith, here, rest, sum)

abbrev in_flight_size : Packet → ℕ
in_flight_size p = if p.in_flight then p.size else 0

size_if : (p : Packet) (ps : List Packet) (flies : Bool) → sum_by (λ (q : Packet). q.size) (if flies then p ∷ ps else ps) ≡ (if flies then p.size else 0) + sum_by (λ (q : Packet). q.size) ps
size_if p ps true = sum_by-cons (λ (q : Packet). q.size) p ps
size_if p ps false = omega arith

sizes_in_flight : (ps : List Packet) → sum_by (λ (p : Packet). p.size) (filter (λ (p : Packet). p.in_flight) ps) ≡ sum_by in_flight_size ps
sizes_in_flight [] = refl
sizes_in_flight (p ∷ ps) =
    let here = size_if p (filter (λ (q : Packet). q.in_flight) ps) p.in_flight in
    let rest = sizes_in_flight ps in
    let sum : sum_by in_flight_size (p ∷ ps) ≡ in_flight_size p + sum_by in_flight_size ps = sum_by-cons in_flight_size p ps in
    omega (arith, here, rest, sum)

grown_new : (c : Settings) (d : ℕ) (r : Control) (app_limited : Bool) (new : List Packet) → 0 < d → 2 * d ≤ r.window
    → (fold (moved d) r (if app_limited then [] else grows c new)).window ≤ r.window + sum_by in_flight_size new
grown_new c d r true new some low = omega arith
grown_new c d r false new some low =
    let kept = filter (λ (p : Packet). p.in_flight) new in
    let most = grown_by c d r (reverse kept) some low in
    let turned = sum_turned (λ p. p.size) kept in
    let sizes = sizes_in_flight new in
    omega (arith, most, turned, sizes)

-- ---- one event

hit_if : (d last_sent now : ℕ) (r : Control) (outside : Bool) → is_outside_recovery r.recovery_start_time last_sent ≡ outside → 2 * d ≤ r.window
    → (2 * d ≤ (on_congestion_event d last_sent now r).window) × ((on_congestion_event d last_sent now r).window ≤ r.window)
hit_if d last_sent now r true is low = rw is ((omega arith), (omega (arith, low)))
hit_if d last_sent now r false is low = rw is (low, (omega arith))

moved_by : (c : Settings) (d now : ℕ) (r : Control) (lost : List Packet) (persistent app_limited : Bool) (new : List Packet) → 0 < d → 2 * d ≤ r.window
    → (fold (moved d) r (congestion_events c now lost ++ persistent_congestions persistent ++ (if app_limited then [] else grows c new))).window ≤ (if persistent then 2 * d else r.window) + sum_by in_flight_size new
moved_by c d now r [] false app_limited new some low = grown_new c d r app_limited new some low
moved_by c d now r [] true app_limited new some low = grown_new c d (on_persistent_congestion d r) app_limited new some (omega arith)
moved_by c d now r (p ∷ lost) true app_limited new some low = grown_new c d (on_persistent_congestion d (on_congestion_event d (latest_sent c (p ∷ lost)) now r)) app_limited new some (omega arith)
moved_by c d now r (p ∷ lost) false app_limited new some low =
    let s = on_congestion_event d (latest_sent c (p ∷ lost)) now r in
    let at = hit_if d (latest_sent c (p ∷ lost)) now r (is_outside_recovery r.recovery_start_time (latest_sent c (p ∷ lost))) refl low in
    let most = grown_new c d s app_limited new some at.0 in
    let lower = at.1 in
    omega (arith, most, lower)

-- ---- a history

-- the window is at most two datagrams and this, where there is a sum
abbrev Within : ℕ → ℕ → Option ℕ → Type 0
Within d window None = Unit {0}
Within d window (Some n) = window ≤ 2 * d + n

within_by : (d first bytes before after : ℕ) (persistent changed : Bool) (sum : Option ℕ) → bytes ≤ first → after ≤ (if persistent then 2 * d else before) + bytes → Within d before sum
    → Within d after (if persistent then Some first else (if changed then None else option_map (λ n. bytes + n) sum))
within_by d first bytes before after true changed sum fewer most within = omega (arith, fewer, most)
within_by d first bytes before after false true sum fewer most within = tt
within_by d first bytes before after false false None fewer most within = tt
within_by d first bytes before after false false (Some n) fewer most within = omega (arith, most, within)

-- a Lost line newly acknowledges nothing
of_detection : (e : Event) (h : List Event) → acknowledged_bytes (e ∷ h) ≤ acknowledged_bytes (detection_of (e ∷ h))
of_detection (Lost time space ranges) h =
    let none : acknowledged_bytes (Lost time space ranges ∷ h) ≡ 0 = ap (sum_by in_flight_size) (newly-quiet (Lost time space ranges) h refl) in omega (arith, none)
of_detection e h = omega arith

within : (c : Settings) (h : List Event) → AreInRange c → Within c.max_datagram_size (reno c h).window (acknowledged_since_collapse c h)
within c [] range = tt
within c (e ∷ h) range =
    let d = c.max_datagram_size in
    let low = window_low c h range in
    let least = range.datagram_low in
    let moves = moved_by c d (event_mark c (detection_of (e ∷ h))) (reno c h) (declared c (e ∷ h)) (is_persistent c (e ∷ h)) (is_app_limited e) (newly_acknowledged (e ∷ h)) (omega (arith, least)) low in
    let most : (reno c (e ∷ h)).window ≤ (if is_persistent c (e ∷ h) then 2 * d else (reno c h).window) + acknowledged_bytes (e ∷ h) =
    subst (λ (r : Control). r.window ≤ (if is_persistent c (e ∷ h) then 2 * d else (reno c h).window) + acknowledged_bytes (e ∷ h)) (sym (reno_after c e h)) moves in
    rw (since_collapse_after c e h)
    (within_by d (acknowledged_bytes (detection_of (e ∷ h))) (acknowledged_bytes (e ∷ h)) (reno c h).window (reno c (e ∷ h)).window (is_persistent c (e ∷ h)) (changes_window c (e ∷ h)) (acknowledged_since_collapse c h)
    (of_detection e h) most (within c h range))

by_sum : (d window n : ℕ) (sum : Option ℕ) → sum ≡ Some n → Within d window sum → window ≤ 2 * d + n
by_sum d window n None is le = cc
by_sum d window n (Some m) is le = let same : m ≡ n = cc in omega (arith, same, le)

-- NewReno's window behind persistent congestion
pub own_window_shows_it : (c : Settings) (h : List Event) (n : ℕ) → AreInRange c → acknowledged_since_collapse c h ≡ Some n → (reno c h).window ≤ 2 * c.max_datagram_size + n
own_window_shows_it c h n range is = by_sum c.max_datagram_size (reno c h).window n (acknowledged_since_collapse c h) is (within c h range)

-- ---- so a report of it is never refused for a collapse

not_above : (d slack window : ℕ) (same : Bool) (sum : Option ℕ) → Within d window sum → is_above_collapse (2 * d + slack) (if same then None else Some window) sum ≡ false
not_above d slack window true sum le = refl
not_above d slack window false None le = refl
not_above d slack window false (Some n) le = le-ltb (2 * d + slack + n) window (omega (arith, le))

report_passes : (d slack in_force window : ℕ) (report sum : Option ℕ) → report ≡ Some window → Within d window sum → is_above_collapse (2 * d + slack) (unless_same in_force report) sum ≡ false
report_passes d slack in_force window None sum is le = cc
report_passes d slack in_force window (Some n) sum is le =
    let same : n ≡ window = cc in not_above d slack n (n == in_force) sum (subst (λ (k : ℕ). Within d k sum) (sym same) le)

and_none : (b x : Bool) → x ≡ false → (b && x) ≡ false
and_none true x none = none
and_none false x none = refl

pub own_window_is_admitted : (c : Settings) (h : List Event) (time : ℕ) (values : MetricValues) → AreInRange c → values.window ≡ Some (reno c h).window → is_collapse_missing c h (Metrics time values) ≡ false
own_window_is_admitted c h time values range is =
    let d = c.max_datagram_size in
    let slack = c.options.report_slack_bytes in
    and_none (is_reported c.options.controller) (is_above_collapse (2 * d + slack) (other_window c h (Metrics time values)) (acknowledged_since_collapse c h))
    (report_passes d slack (reported_window c h) (reno c h).window values.window (acknowledged_since_collapse c h) is (within c h range))

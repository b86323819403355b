-- What one more event makes of the bytes that were acknowledged since persistent congestion, and how many they are at most.
use Rattle.std.proofs.Common.{◌≡◌, ◌≤◌, ◌+◌, ◌*◌, ◌<◌, ◌^◌, ℕ, List, [], ◌∷◌, length, Bool, true, false, ◌||◌, Option, Some, None, option_map, option_and_then, refl, ap, arith, find, sum_by}
use Rattle.std.proofs.lemmas.List.Sums.{sum_by-cons}
use Rattle.std.specs.List.{All, AllByRecursion}
use Rattle.std.specs.Prelude.{if◌then◌else◌}
use Rattle.qa_base.specs.declared.event.Event.{Event}
use Rattle.qa_base.specs.declared.event.Event.TheVariants.{Lost}
use Rattle.qa_base.specs.machine.Loss.{is_persistent}
use Rattle.qa_base.specs.machine.Moments.{moments, since, detection_of}
use Rattle.qa_base.specs.machine.Packets.{Packet, history_of, packets, is_newly_acknowledged, newly_acknowledged}
use Rattle.qa_base.specs.machine.Widths.{Fits, acknowledged_count}
use Rattle.qa_base.specs.machine.Window.{acknowledged_bytes, acknowledged_since_collapse, changes_window, if_persistent, is_collapse_or_change}
use Rattle.qa_base.specs.values.Settings.{Settings}
use Rattle.qa_base.proofs.machine.Histories.{length-history_of}
use Rattle.qa_base.proofs.machine.WindowBound.{IsSized, acknowledged_few, each_of_part, fits_history, length_part, newly_counted, packets_few, sized}

-- ---- one more event

more_by : (bytes first : List Event → ℕ) (m : List Event) (ms : List (List Event)) (on_persistent_congestion : Option (List Event))
    → option_map (λ k. sum_by bytes (m ∷ ms) + first k) on_persistent_congestion ≡ option_map (λ n. bytes m + n) (option_map (λ k. sum_by bytes ms + first k) on_persistent_congestion)
more_by bytes first m ms None = refl
more_by bytes first m ms (Some k) = let all : sum_by bytes (m ∷ ms) ≡ bytes m + sum_by bytes ms = sum_by-cons bytes m ms in ap Some (omega (arith, all))

by_tests : (bytes first : List Event → ℕ) (collapse_at : List Event → Option (List Event)) (m : List Event) (ms : List (List Event)) (before : Option (List Event)) (persistent changed : Bool)
    → collapse_at m ≡ (if persistent then Some m else None)
    → option_map (λ k. sum_by bytes (if persistent || changed then [] else m ∷ ms) + first k) (option_and_then collapse_at (if persistent || changed then Some m else before))
    ≡ (if persistent then Some (first m) else (if changed then None else option_map (λ n. bytes m + n) (option_map (λ k. sum_by bytes ms + first k) (option_and_then collapse_at before))))
by_tests bytes first collapse_at m ms before true changed is = rw is (ap Some (omega arith))
by_tests bytes first collapse_at m ms before false true is = rw is refl
by_tests bytes first collapse_at m ms before false false is = more_by bytes first m ms (option_and_then collapse_at before)

-- a collapse begins the sum, another window ends it
pub since_collapse_after : (c : Settings) (e : Event) (h : List Event) → acknowledged_since_collapse c (e ∷ h)
    ≡ (if is_persistent c (e ∷ h) then Some (acknowledged_bytes (detection_of (e ∷ h)))
    else (if changes_window c (e ∷ h) then None else option_map (λ n. acknowledged_bytes (e ∷ h) + n) (acknowledged_since_collapse c h)))
since_collapse_after c e h =
    by_tests acknowledged_bytes (λ m. acknowledged_bytes (detection_of m)) (if_persistent c) (e ∷ h) (since (is_collapse_or_change c) h) (find (is_collapse_or_change c) (moments h))
    (is_persistent c (e ∷ h)) (changes_window c (e ∷ h)) refl

-- ---- the sum is small

abbrev pub in_flight_size : Packet → ℕ
in_flight_size p = if p.in_flight then p.size else 0

pub size_if : (in_flight : Bool) (size : ℕ) → size ≤ 65527 → (if in_flight then size else 0) ≤ 65527
size_if true size small = small
size_if false size small = omega arith

sizes_small : (ps : List Packet) → AllByRecursion IsSized ps → sum_by in_flight_size ps ≤ 65527 * length ps
sizes_small [] all = omega arith
sizes_small (p ∷ ps) all =
    let sum : sum_by in_flight_size (p ∷ ps) ≡ in_flight_size p + sum_by in_flight_size ps = sum_by-cons in_flight_size p ps in
    let here = size_if p.in_flight p.size all.0 in
    let rest = sizes_small ps all.1 in
    omega (arith, sum, here, rest)

-- a packet's greatest size for each that an event newly acknowledges
pub bytes_small : (e : Event) (h : List Event) → AllByRecursion Fits h → acknowledged_bytes (e ∷ h) + 65527 * acknowledged_count h ≤ 65527 * acknowledged_count (e ∷ h)
bytes_small e h fit =
    let bytes : acknowledged_bytes (e ∷ h) ≤ 65527 * length (newly_acknowledged (e ∷ h)) =
    sizes_small (newly_acknowledged (e ∷ h)) (each_of_part IsSized (is_newly_acknowledged e h) (packets h) (sized h fit)) in
    let more = newly_counted e h in
    omega (arith, bytes, more)

-- no more than this, where there is a sum
abbrev pub IsAtMost : ℕ → Option ℕ → Type 0
IsAtMost most None = Unit {0}
IsAtMost most (Some n) = n ≤ most

at_most_more : (most more : ℕ) (sum : Option ℕ) → most ≤ more → IsAtMost most sum → IsAtMost more sum
at_most_more most more None least small = tt
at_most_more most more (Some n) least small = omega (arith, least, small)

small_by : (first bytes before after : ℕ) (sum : Option ℕ) (persistent changed : Bool) → first ≤ after → bytes + before ≤ after → IsAtMost before sum
    → IsAtMost after (if persistent then Some first else (if changed then None else option_map (λ n. bytes + n) sum))
small_by first bytes before after sum true changed begun more small = begun
small_by first bytes before after sum false true begun more small = tt
small_by first bytes before after None false false begun more small = tt
small_by first bytes before after (Some n) false false begun more small = omega (arith, more, small)

-- so few are those of a detection
detected_small : (e : Event) (h : List Event) → AllByRecursion Fits (e ∷ h) → acknowledged_bytes (detection_of (e ∷ h)) ≤ 65527 * acknowledged_count (e ∷ h)
detected_small (Lost time space ranges) [] fit = omega arith
detected_small (Lost time space ranges) (d ∷ h) fit = let few = bytes_small d h fit.1.1 in omega (arith, few)
detected_small e h fit = let few = bytes_small e h fit.1 in omega (arith, few)

pub since_collapse_small : (c : Settings) (h : List Event) → AllByRecursion Fits h → IsAtMost (65527 * acknowledged_count h) (acknowledged_since_collapse c h)
since_collapse_small c [] fit = tt
since_collapse_small c (e ∷ h) fit =
    rw (since_collapse_after c e h) (small_by (acknowledged_bytes (detection_of (e ∷ h))) (acknowledged_bytes (e ∷ h)) (65527 * acknowledged_count h) (65527 * acknowledged_count (e ∷ h)) (acknowledged_since_collapse c h)
    (is_persistent c (e ∷ h)) (changes_window c (e ∷ h)) (detected_small e h fit) (bytes_small e h fit.1) (since_collapse_small c h fit.1))

-- an event newly acknowledges few bytes
pub new_bytes_bound : (e : Event) (events : List Event) → All Fits events → length events < 2 ^ 32 → acknowledged_bytes (e ∷ history_of events) < 2 ^ 48
new_bytes_bound e events fit few =
    let h = history_of events in
    let sum = sizes_small (newly_acknowledged (e ∷ h)) (each_of_part IsSized (is_newly_acknowledged e h) (packets h) (sized h (fits_history events fit))) in
    let part : length (newly_acknowledged (e ∷ h)) ≤ length (packets h) = length_part (is_newly_acknowledged e h) (packets h) in
    let fewer = packets_few h in
    let many = length-history_of events in
    omega (arith, sum, part, fewer, many, few)

-- and few were acknowledged since a collapse
pub since_bound : (c : Settings) (events : List Event) → All Fits events → length events < 2 ^ 32 → IsAtMost (2 ^ 48) (acknowledged_since_collapse c (history_of events))
since_bound c events fit few =
    let h = history_of events in
    let counted = acknowledged_few h in
    let many = length-history_of events in
    at_most_more (65527 * acknowledged_count h) (2 ^ 48) (acknowledged_since_collapse c h) (omega (arith, counted, many, few)) (since_collapse_small c h (fits_history events fit))

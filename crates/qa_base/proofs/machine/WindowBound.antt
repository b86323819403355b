-- The window of a history is never below two datagrams, and never above where it began and the most that each covered packet adds.
use Rattle.std.proofs.Common.{◌≡◌, ◌∙◌, ◌≤◌, ◌<◌, ◌+◌, ◌*◌, ◌/◌, ◌^◌, ℕ, zero, suc, max, cond, List, [], ◌∷◌, ◌++◌, length, Bool, true, false, ◌&&◌, ◌||◌, not, Some, refl, ap, arith, map, reverse, filter, fold, sum_by, count_by, take}
use Rattle.std.proofs.lemmas.List.{map-append, reverse-append}
use Rattle.std.proofs.lemmas.List.Sums.{sum_by-cons, sum_by-append, length-filter, count_by-le-length}
use Rattle.std.proofs.lemmas.List.Elements.{recursion_from_All, All-take}
use Rattle.std.proofs.lemmas.Bool.{and_parts, leb-true}
use Rattle.std.proofs.Math.Nat.{div-le_of_le-mul, mul-le-mul_right}
use Rattle.std.specs.List.{AllByRecursion, All}
use Rattle.std.specs.Prelude.{if◌then◌else◌, nat_lt, nat_le}
use Rattle.qa_base.specs.declared.event.Event.{Event}
use Rattle.qa_base.specs.declared.event.Event.TheVariants.{Sent}
use Rattle.qa_base.specs.machine.Packets.{Packet, packets, packet_of, is_acknowledged, is_declared_lost, is_newly_acknowledged, newly_acknowledged, history_of}
use Rattle.qa_base.specs.values.Events.{acknowledges}
use Rattle.qa_base.specs.machine.Loss.{declared, is_persistent, bytes_in_flight, flight_size, is_open}
use Rattle.qa_base.specs.machine.Moments.{detection_of}
use Rattle.qa_base.specs.machine.Reno.{Move, CongestionEvent, PersistentCongestion, Grow, Control, start, moved, moves, moves_of_last, reno, congestion_events, event_mark, sent_mark, persistent_congestions, grows, is_app_limited, is_slow_start, is_outside_recovery, growth}
use Rattle.qa_base.specs.values.Settings.{Settings, AreInRange}
use Rattle.qa_base.specs.machine.Widths.{Fits, acknowledged_count}
use Rattle.qa_base.proofs.machine.Histories.{length-history_of}
use Rattle.qa_base.proofs.machine.Steps.{reno_after}

-- ---- two datagrams at least

hit_at_least : (d last_sent now : ℕ) (r : Control) (here : Bool) → 2 * d ≤ r.window
    → 2 * d ≤ (if here then record { window = max (r.window / 2) (2 * d); ssthresh = Some (r.window / 2); recovery_start_time = Some now } else r).window
hit_at_least d last_sent now r true least = omega arith
hit_at_least d last_sent now r false least = least

pub grow_at_least : (d size : ℕ) (r : Control) (here : Bool) → r.window
    ≤ (if here then record { window = r.window + growth d size r; ssthresh = r.ssthresh; recovery_start_time = r.recovery_start_time } else r).window
grow_at_least d size r true = omega arith
grow_at_least d size r false = omega arith

moved_at_least : (d : ℕ) (r : Control) (m : Move) → 2 * d ≤ r.window → 2 * d ≤ (moved d r m).window
moved_at_least d r (CongestionEvent last_sent now) least = hit_at_least d last_sent now r (is_outside_recovery r.recovery_start_time last_sent) least
moved_at_least d r PersistentCongestion least = omega arith
moved_at_least d r (Grow size sent) least =
    let more = grow_at_least d size r (is_outside_recovery r.recovery_start_time sent) in omega (arith, least, more)

all_at_least : (d : ℕ) (r : Control) (ms : List Move) → 2 * d ≤ r.window → 2 * d ≤ (fold (moved d) r ms).window
all_at_least d r [] least = least
all_at_least d r (m ∷ ms) least = all_at_least d (moved d r m) ms (moved_at_least d r m least)

-- the window is never less than two datagrams
pub window_low : (c : Settings) (h : List Event) → AreInRange c → 2 * c.max_datagram_size ≤ (reno c h).window
window_low c h range = all_at_least c.max_datagram_size (start c.initial_window) (moves c h) range.window_low

-- ---- one move

abbrev IsSmall : Move → Type 0
IsSmall (Grow size sent) = size ≤ 65527
IsSmall _ = Unit {0}

abbrev pub weight : Move → ℕ
weight (Grow size sent) = 65527
weight _ = 0

record IsBetween (d most : ℕ) (r : Control) : Type 0 where
  low : 2 * d ≤ r.window
  high : r.window ≤ most

between_if : (d most : ℕ) (here : Bool) (r s : Control) → IsBetween d most r → IsBetween d most s → IsBetween d most (if here then r else s)
between_if d most true r s a b = a
between_if d most false r s a b = b

mul_le : (d size window : ℕ) → d ≤ window → d * size ≤ window * size
mul_le d size window low = mul-le-mul_right size low

part_small : (d size window : ℕ) → d ≤ window → 0 < window → d * size / window ≤ size
part_small d size window low some = div-le_of_le-mul window (mul_le d size window low)

growth_if : (d size window : ℕ) (slow : Bool) → d ≤ window → 0 < window → (if slow then size else d * size / window) ≤ size
growth_if d size window true low some = omega arith
growth_if d size window false low some = part_small d size window low some

one_move : (d most : ℕ) (r : Control) (m : Move) → 0 < d → 2 * d ≤ most → IsSmall m → IsBetween d most r → IsBetween d (most + weight m) (moved d r m)
one_move d most r (CongestionEvent last_sent now) some room small is =
    let low = is.low in let high = is.high in
    between_if d (most + 0) (is_outside_recovery r.recovery_start_time last_sent) (record { window = max (r.window / 2) (2 * d); ssthresh = Some (r.window / 2); recovery_start_time = Some now }) r
    (record { low = omega arith; high = omega arith }) (record { low = low; high = omega arith })
one_move d most r PersistentCongestion some room small is = record { low = omega arith; high = omega arith }
one_move d most r (Grow size sent) some room small is =
    let low = is.low in let high = is.high in
    let grew : growth d size r ≤ size = growth_if d size r.window (is_slow_start r) (omega arith) (omega arith) in
    between_if d (most + 65527) (is_outside_recovery r.recovery_start_time sent) (record { window = r.window + growth d size r; ssthresh = r.ssthresh; recovery_start_time = r.recovery_start_time }) r
    (record { low = omega arith; high = omega (arith, grew) }) (record { low = low; high = omega arith })

all_moves : (d most : ℕ) (r : Control) (ms : List Move) → 0 < d → 2 * d ≤ most → AllByRecursion IsSmall ms → IsBetween d most r → IsBetween d (most + sum_by weight ms) (fold (moved d) r ms)
all_moves d most r [] some room small is = record { low = is.low; high = (let high = is.high in omega arith) }
all_moves d most r (m ∷ ms) some room small is =
    let rest = all_moves d (most + weight m) (moved d r m) ms some (omega arith) small.1 (one_move d most r m some room small.0 is) in
    let high = rest.high in
    let all : sum_by weight (m ∷ ms) ≡ weight m + sum_by weight ms = sum_by-cons weight m ms in
    record { low = rest.low; high = omega (arith, all) }

grow_if : (here : Bool) (d size window : ℕ) (r : Control) (grew : ℕ) → r.window ≡ window → grew ≤ size
    → (if here then record { window = window + grew; ssthresh = r.ssthresh; recovery_start_time = r.recovery_start_time } else r).window ≤ window + size
grow_if true d size window r grew is small = omega (arith, small)
grow_if false d size window r grew is small = omega (arith, is)

-- a packet adds at most its size
pub grown_little : (d : ℕ) (r : Control) (size sent : ℕ) → 0 < d → 2 * d ≤ r.window → (moved d r (Grow size sent)).window ≤ r.window + size
grown_little d r size sent some low =
    grow_if (is_outside_recovery r.recovery_start_time sent) d size r.window r (growth d size r) refl (growth_if d size r.window (is_slow_start r) (omega arith) (omega arith))

-- ---- the moves of one event

abbrev pub IsSized : Packet → Type 0
IsSized p = p.size ≤ 65527

pub each_append : {X : Type 0} (P : X → Type 0) (xs ys : List X) → AllByRecursion P xs → AllByRecursion P ys → AllByRecursion P (xs ++ ys)
each_append P [] ys a b = b
each_append P (x ∷ xs) ys a b = (a.0, each_append P xs ys a.1 b)

each_if : (P : Packet → Type 0) (p : Packet) (ps : List Packet) (keep : Bool) → P p → AllByRecursion P ps → AllByRecursion P (if keep then p ∷ ps else ps)
each_if P p ps true here rest = (here, rest)
each_if P p ps false here rest = rest

pub each_of_part : (P : Packet → Type 0) (kept : Packet → Bool) (ps : List Packet) → AllByRecursion P ps → AllByRecursion P (filter kept ps)
each_of_part P kept [] all = tt
each_of_part P kept (p ∷ ps) all = each_if P p (filter kept ps) (kept p) all.0 (each_of_part P kept ps all.1)

abbrev growing : Settings → Packet → Move
growing c p = Grow p.size (sent_mark c p)

small_turned : (c : Settings) (ps : List Packet) → AllByRecursion IsSized ps → AllByRecursion IsSmall (map (growing c) (reverse ps))
small_turned c [] all = tt
small_turned c (p ∷ ps) all =
    let turned : reverse (p ∷ ps) ≡ reverse ps ++ p ∷ [] = reverse-append (p ∷ []) ps in
    let mapped : map (growing c) (reverse (p ∷ ps)) ≡ map (growing c) (reverse ps) ++ growing c p ∷ [] = ap (map (growing c)) turned ∙ map-append (growing c) (reverse ps) (p ∷ []) in
    rw mapped (each_append IsSmall (map (growing c) (reverse ps)) (growing c p ∷ []) (small_turned c ps all.1) (all.0, tt))

weight_turned : (c : Settings) (ps : List Packet) → sum_by weight (map (growing c) (reverse ps)) ≡ 65527 * length ps
weight_turned c [] = refl
weight_turned c (p ∷ ps) =
    let turned : reverse (p ∷ ps) ≡ reverse ps ++ p ∷ [] = reverse-append (p ∷ []) ps in
    let mapped : map (growing c) (reverse (p ∷ ps)) ≡ map (growing c) (reverse ps) ++ growing c p ∷ [] = ap (map (growing c)) turned ∙ map-append (growing c) (reverse ps) (p ∷ []) in
    let parts : sum_by weight (map (growing c) (reverse ps) ++ growing c p ∷ []) ≡ sum_by weight (map (growing c) (reverse ps)) + sum_by weight (growing c p ∷ []) = sum_by-append weight (map (growing c) (reverse ps)) (growing c p ∷ []) in
    let rest = weight_turned c ps in
    ap (sum_by weight) mapped ∙ (parts ∙ (omega (arith, rest)))

pub length_part : (kept : Packet → Bool) (ps : List Packet) → length (filter kept ps) ≤ length ps
length_part kept ps = omega (arith, length-filter kept ps, count_by-le-length kept ps)

small_hits : (c : Settings) (now : ℕ) (ps : List Packet) → AllByRecursion IsSmall (congestion_events c now ps) × (sum_by weight (congestion_events c now ps) ≡ 0)
small_hits c now [] = (tt, refl)
small_hits c now (p ∷ ps) = ((tt, tt), refl)

small_collapses : (b : Bool) → AllByRecursion IsSmall (persistent_congestions b) × (sum_by weight (persistent_congestions b) ≡ 0)
small_collapses true = ((tt, tt), refl)
small_collapses false = (tt, refl)

small_grows : (c : Settings) (app_limited : Bool) (ps : List Packet) → AllByRecursion IsSized ps
    → AllByRecursion IsSmall (if app_limited then [] else grows c ps) × (sum_by weight (if app_limited then [] else grows c ps) ≤ 65527 * length ps)
small_grows c true ps all = (tt, (omega arith))
small_grows c false ps all =
    let kept = filter (λ (p : Packet). p.in_flight) ps in
    let heavy : sum_by weight (grows c ps) ≡ 65527 * length kept = weight_turned c kept in
    let fewer : length kept ≤ length ps = length_part (λ (p : Packet). p.in_flight) ps in
    (small_turned c kept (each_of_part IsSized (λ (p : Packet). p.in_flight) ps all), (omega (arith, heavy, fewer)))

small_moves : (c : Settings) (e : Event) (h : List Event) → AllByRecursion IsSized (packets h)
    → AllByRecursion IsSmall (moves_of_last c (e ∷ h)) × (sum_by weight (moves_of_last c (e ∷ h)) ≤ 65527 * length (newly_acknowledged (e ∷ h)))
small_moves c e h sized =
    let xs = congestion_events c (event_mark c (detection_of (e ∷ h))) (declared c (e ∷ h)) in
    let ys = persistent_congestions (is_persistent c (e ∷ h)) in
    let new = newly_acknowledged (e ∷ h) in
    let zs : List Move = if is_app_limited e then [] else grows c new in
    let a = small_hits c (event_mark c (detection_of (e ∷ h))) (declared c (e ∷ h)) in
    let b = small_collapses (is_persistent c (e ∷ h)) in
    let g = small_grows c (is_app_limited e) new (each_of_part IsSized (is_newly_acknowledged e h) (packets h) sized) in
    let sum : sum_by weight (moves_of_last c (e ∷ h)) ≡ sum_by weight (xs ++ ys) + sum_by weight zs = sum_by-append weight (xs ++ ys) zs in
    let sums : sum_by weight (xs ++ ys) ≡ sum_by weight xs + sum_by weight ys = sum_by-append weight xs ys in
    let x = a.1 in let y = b.1 in let z = g.1 in
    (each_append IsSmall (xs ++ ys) zs (each_append IsSmall xs ys a.0 b.0) g.0, (omega (arith, sum, sums, x, y, z)))

-- ---- each packet is newly acknowledged once

once : (names later covered lost : Bool) → later ≡ true
    → cond covered 1 0 + cond (names && not covered && not lost) 1 0 ≤ cond ((names && later) || covered) 1 0
once true true true lost is = omega arith
once true true false true is = omega arith
once true true false false is = omega arith
once false true true lost is = omega arith
once false true false lost is = omega arith
once names false covered lost is = cc

abbrev IsBehind : ℕ → Packet → Type 0
IsBehind n p = nat_lt p.place n ≡ true

covered_more : (e : Event) (h : List Event) (ps : List Packet) → AllByRecursion (IsBehind (length h)) ps
    → count_by (is_acknowledged h) ps + count_by (is_newly_acknowledged e h) ps ≤ count_by (is_acknowledged (e ∷ h)) ps
covered_more e h [] behind = omega arith
covered_more e h (p ∷ ps) behind =
    let rest = covered_more e h ps behind.1 in
    let here = once (acknowledges p.space p.number e) (nat_lt p.place (length h)) (is_acknowledged h p) (is_declared_lost h p) behind.0 in
    let a : count_by (is_acknowledged h) (p ∷ ps) ≡ cond (is_acknowledged h p) 1 0 + count_by (is_acknowledged h) ps = sum_by-cons (λ q. cond (is_acknowledged h q) 1 0) p ps in
    let b : count_by (is_newly_acknowledged e h) (p ∷ ps) ≡ cond (is_newly_acknowledged e h p) 1 0 + count_by (is_newly_acknowledged e h) ps = sum_by-cons (λ q. cond (is_newly_acknowledged e h q) 1 0) p ps in
    let d : count_by (is_acknowledged (e ∷ h)) (p ∷ ps) ≡ cond (is_acknowledged (e ∷ h) p) 1 0 + count_by (is_acknowledged (e ∷ h)) ps = sum_by-cons (λ q. cond (is_acknowledged (e ∷ h) q) 1 0) p ps in
    omega (arith, rest, here, a, b, d)

behind_more : (n : ℕ) (ps : List Packet) → AllByRecursion (λ (p : Packet). p.place < n) ps → AllByRecursion (λ (p : Packet). p.place < suc n) ps
behind_more n [] all = tt
behind_more n (p ∷ ps) all = (omega (arith, all.0), behind_more n ps all.1)

placed_one : (e : Event) (n : ℕ) → AllByRecursion (λ (p : Packet). p.place < suc n) (packet_of n e)
placed_one (Sent packet) n = ((omega arith), tt)
placed_one _ n = tt

pub placed : (h : List Event) → AllByRecursion (λ (p : Packet). p.place < length h) (packets h)
placed [] = tt
placed (e ∷ h) = each_append (λ (p : Packet). p.place < suc (length h)) (packet_of (length h) e) (packets h) (placed_one e (length h)) (behind_more (length h) (packets h) (placed h))

behind_tests : (n : ℕ) (ps : List Packet) → AllByRecursion (λ (p : Packet). p.place < n) ps → AllByRecursion (IsBehind n) ps
behind_tests n [] all = tt
behind_tests n (p ∷ ps) all = ((grind (arith, all.0)), behind_tests n ps all.1)

-- ---- the window of a history

sized_one : (e : Event) (n : ℕ) → Fits e → AllByRecursion IsSized (packet_of n e)
sized_one (Sent packet) n fit =
    let parts = and_parts (nat_le 1 packet.size && nat_le packet.size 65527) (not packet.eliciting || packet.in_flight) fit in
    let both = and_parts (nat_le 1 packet.size) (nat_le packet.size 65527) parts.0 in
    ((leb-true packet.size 65527 both.1), tt)
sized_one _ n fit = tt

pub sized : (h : List Event) → AllByRecursion Fits h → AllByRecursion IsSized (packets h)
sized [] fit = tt
sized (e ∷ h) fit = each_append IsSized (packet_of (length h) e) (packets h) (sized_one e (length h) fit.0) (sized h fit.1)

-- the packets that an event newly acknowledges were not acknowledged before
pub newly_counted : (e : Event) (h : List Event) → length (newly_acknowledged (e ∷ h)) + acknowledged_count h ≤ acknowledged_count (e ∷ h)
newly_counted e h =
    let new : length (newly_acknowledged (e ∷ h)) ≡ count_by (is_newly_acknowledged e h) (packets h) = length-filter (is_newly_acknowledged e h) (packets h) in
    let more = covered_more e h (packets h) (behind_tests (length h) (packets h) (placed h)) in
    let onto : count_by (is_acknowledged (e ∷ h)) (packets (e ∷ h)) ≡ count_by (is_acknowledged (e ∷ h)) (packet_of (length h) e) + count_by (is_acknowledged (e ∷ h)) (packets h) =
    sum_by-append (λ q. cond (is_acknowledged (e ∷ h) q) 1 0) (packet_of (length h) e) (packets h) in
    omega (arith, new, more, onto)

between : (c : Settings) (h : List Event) → AreInRange c → AllByRecursion Fits h → IsBetween c.max_datagram_size (c.initial_window + 65527 * acknowledged_count h) (reno c h)
between c [] range fit = record { low = range.window_low; high = omega arith }
between c (e ∷ h) range fit =
    let d = c.max_datagram_size in
    let before = between c h range fit.1 in
    let most = c.initial_window + 65527 * acknowledged_count h in
    let window_low = range.window_low in
    let datagram_low = range.datagram_low in
    let small = small_moves c e h (sized h fit.1) in
    let moved_on = all_moves d most (reno c h) (moves_of_last c (e ∷ h)) (omega arith) (omega arith) small.0 before in
    let here : IsBetween d (most + sum_by weight (moves_of_last c (e ∷ h))) (reno c (e ∷ h)) = rw (reno_after c e h) moved_on in
    let heavy = small.1 in
    let more = newly_counted e h in
    let high = here.high in
    record { low = here.low; high = omega (arith, high, heavy, more) }

-- it is at most where it began and a packet's greatest size for each that was acknowledged
pub window_high : (c : Settings) (h : List Event) → AreInRange c → AllByRecursion Fits h → (reno c h).window ≤ c.initial_window + 65527 * acknowledged_count h
window_high c h range fit = (between c h range fit).high

pub packets_few : (h : List Event) → length (packets h) ≤ length h
packets_few [] = omega arith
packets_few (Sent packet ∷ h) = omega (arith, packets_few h)
packets_few (_ ∷ h) = omega (arith, packets_few h)

-- no more are acknowledged than there are events
pub acknowledged_few : (h : List Event) → acknowledged_count h ≤ length h
acknowledged_few h =
    let counted : acknowledged_count h ≤ length (packets h) = count_by-le-length (is_acknowledged h) (packets h) in
    let fewer = packets_few h in
    omega (arith, counted, fewer)

-- the window of fewer than 2^32 events
pub window_bound : (c : Settings) (h : List Event) → AreInRange c → AllByRecursion Fits h → length h < 2 ^ 32 → (2 * c.max_datagram_size ≤ (reno c h).window) × ((reno c h).window ≤ 2 ^ 60)
window_bound c h range fit few =
    let is = between c h range fit in
    let low = is.low in let high = is.high in
    let window_high = range.window_high in
    let fewer = acknowledged_few h in
    (low, (omega (arith, high, fewer, few, window_high)))

onto_fits : (h events : List Event) → AllByRecursion Fits h → AllByRecursion Fits events → AllByRecursion Fits (fold (λ (h : List Event) e. e ∷ h) h events)
onto_fits h [] a b = a
onto_fits h (e ∷ events) a b = onto_fits (e ∷ h) events (b.0, a) b.1

pub fits_history : (events : List Event) → All Fits events → AllByRecursion Fits (history_of events)
fits_history events all = onto_fits [] events tt (recursion_from_All Fits events all)

take_few : (i : ℕ) (xs : List Event) → length (take i xs) ≤ length xs
take_few zero xs = omega arith
take_few (suc i) [] = omega arith
take_few (suc i) (x ∷ xs) = omega (arith, take_few i xs)

-- the same of the first so many events
pub window_at : (c : Settings) (events : List Event) (i : ℕ) → AreInRange c → All Fits events → length events < 2 ^ 32
    → (2 * c.max_datagram_size ≤ (reno c (history_of (take i events))).window) × ((reno c (history_of (take i events))).window ≤ 2 ^ 60)
window_at c events i range fit few =
    let before = take i events in
    let many : length (history_of before) ≡ length before = length-history_of before in
    let fewer : length before ≤ length events = take_few i events in
    window_bound c (history_of before) range (fits_history before (All-take Fits i events fit)) (omega (arith, many, fewer, few))

-- ---- the bytes in flight

flight_small : (b : Bool) (size : ℕ) → size ≤ 65527 → (if b then size else 0) ≤ 65527
flight_small true size small = small
flight_small false size small = omega arith

flight_sum : (c : Settings) (h : List Event) (ps : List Packet) → AllByRecursion IsSized ps → sum_by (flight_size c h) ps ≤ 65527 * length ps
flight_sum c h [] all = omega arith
flight_sum c h (p ∷ ps) all =
    let rest = flight_sum c h ps all.1 in
    let here : flight_size c h p ≤ 65527 = flight_small (p.in_flight && is_open c h p) p.size all.0 in
    let sum : sum_by (flight_size c h) (p ∷ ps) ≡ flight_size c h p + sum_by (flight_size c h) ps = sum_by-cons (flight_size c h) p ps in
    omega (arith, rest, here, sum)

-- the bytes in flight are at most a packet's greatest size for each event
pub flight_bound : (c : Settings) (h : List Event) → AllByRecursion Fits h → bytes_in_flight c h ≤ 65527 * length h
flight_bound c h fit =
    let sum = flight_sum c h (packets h) (sized h fit) in
    let fewer = packets_few h in
    omega (arith, sum, fewer)

pub bytes_bound : (c : Settings) (events : List Event) → All Fits events → length events < 2 ^ 32 → bytes_in_flight c (history_of events) < 2 ^ 48
bytes_bound c events fit few =
    let h = history_of events in
    let sum = flight_sum c h (packets h) (sized h (fits_history events fit)) in
    let fewer = packets_few h in
    let many = length-history_of events in
    omega (arith, sum, fewer, many, few)

-- The window after the moves of one event.
use Rattle.std.proofs.Common.{◌≡◌, ◌∙◌, ◌≤◌, ◌<◌, ◌+◌, ◌*◌, ◌/◌, ◌^◌, ℕ, max, List, [], ◌∷◌, ◌++◌, length, Bool, true, false, ◌&&◌, ◌||◌, not, Option, Some, None, refl, sym, ap, arith, map, reverse, filter, fold}
use Rattle.std.proofs.lemmas.List.{append-nil, length-reverse, reverse-append}
use Rattle.std.proofs.lemmas.List.Elements.{filter-append}
use Rattle.std.proofs.lemmas.List.Sums.{count_by-le-length, fold-append, length-filter}
use Rattle.std.proofs.lemmas.Bool.{and_parts, leb-true}
use Rattle.std.specs.List.{AllByRecursion}
use Rattle.std.specs.Prelude.{if◌then◌else◌, nat_le}
use Rattle.qa_base.specs.declared.event.Event.{Event}
use Rattle.qa_base.specs.declared.event.Event.TheVariants.{Sent}
use Rattle.qa_base.specs.machine.Loss.{declared, is_persistent}
use Rattle.qa_base.specs.machine.Moments.{detection_of}
use Rattle.qa_base.specs.machine.Packets.{Packet, packets, packet_of, is_newly_acknowledged, newly_acknowledged}
use Rattle.qa_base.specs.machine.Reno.{Control, Move, Grow, persistent_congestions, grow, grows, congestion_events, event_mark, sent_mark, is_app_limited, is_outside_recovery, moved, reno}
use Rattle.qa_base.specs.machine.Widths.{Fits}
use Rattle.qa_base.specs.values.Settings.{Settings, AreInRange}
use Rattle.qa_base.proofs.machine.Steps.{reno_after}
use Rattle.qa_base.proofs.machine.WindowBound.{each_append, each_of_part, grow_at_least, grown_little, window_bound}
use Rattle.qa_sender.specs.connection.Known.{acknowledged_by}
use Rattle.qa_sender.specs.connection.Steps.{can_grow, grown_by, hits_at, last_sent}
use Rattle.qa_sender.specs.connection.Steps as steps
use Rattle.qa_sent_packets.specs.Told.{sent_of}
use Rattle.qa_sent_packets.specs.declared.packet.SentPacket.{SentPacket}

-- ---- the sizes of packets

abbrev IsSized : Packet → Type 0
IsSized p = (1 ≤ p.size) × (p.size ≤ 65527)

sized_one : (e : Event) (n : ℕ) → Fits e → AllByRecursion IsSized (packet_of n e)
sized_one (Sent packet) n fit =
    let parts = and_parts (nat_le 1 packet.size && nat_le packet.size 65527) (not packet.eliciting || packet.in_flight) fit in
    let both = and_parts (nat_le 1 packet.size) (nat_le packet.size 65527) parts.0 in
    ((leb-true 1 packet.size both.0, leb-true packet.size 65527 both.1), tt)
sized_one _ n fit = tt

sized : (h : List Event) → AllByRecursion Fits h → AllByRecursion IsSized (packets h)
sized [] fit = tt
sized (e ∷ h) fit = each_append IsSized (packet_of (length h) e) (packets h) (sized_one e (length h) fit.0) (sized h fit.1)

pub packets_few : (h : List Event) → length (packets h) ≤ length h
packets_few [] = omega arith
packets_few (Sent packet ∷ h) = omega (arith, packets_few h)
packets_few (_ ∷ h) = omega (arith, packets_few h)

pub newly_few : (e : Event) (h : List Event) → length (newly_acknowledged (e ∷ h)) ≤ length h
newly_few e h =
    let part = length-filter (is_newly_acknowledged e h) (packets h) in
    let fewer = count_by-le-length (is_newly_acknowledged e h) (packets h) in
    let few = packets_few h in
    omega (arith, part, fewer, few)

-- ---- the list turned

each_push : (p : Packet) (ps : List Packet) → AllByRecursion IsSized ps → IsSized p → AllByRecursion IsSized (ps ++ p ∷ [])
each_push p [] all here = (here, tt)
each_push p (q ∷ ps) all here = (all.0, each_push p ps all.1 here)

sized_turned : (ps : List Packet) → AllByRecursion IsSized ps → AllByRecursion IsSized (reverse ps)
sized_turned [] all = tt
sized_turned (p ∷ ps) all =
    let turned : reverse (p ∷ ps) ≡ reverse ps ++ p ∷ [] = reverse-append (p ∷ []) ps in
    rw turned (each_push p (reverse ps) (sized_turned ps all.1) all.0)

abbrev flies : Packet → Bool
flies p = p.in_flight

part_push : (p : Packet) (ps : List Packet) (keep : Bool) → reverse (if keep then p ∷ ps else ps) ≡ reverse ps ++ (if keep then p ∷ [] else [])
part_push p ps true = reverse-append (p ∷ []) ps
part_push p ps false = sym (append-nil (reverse ps))

part_turned : (ps : List Packet) → filter flies (reverse ps) ≡ reverse (filter flies ps)
part_turned [] = refl
part_turned (p ∷ ps) =
    ap (filter flies) (reverse-append (p ∷ []) ps)
    ∙ (filter-append flies (reverse ps) (p ∷ [])
    ∙ (ap (λ qs. qs ++ filter flies (p ∷ [])) (part_turned ps) ∙ sym (part_push p (filter flies ps) p.in_flight)))

-- ---- growth

can : (window size : ℕ) → 1 ≤ window → window ≤ 4611686018427387904 → 1 ≤ size → size ≤ 65527 → can_grow window size ≡ true
can window size a b x y = grind (arith, a, b, x, y)

by_tests : (a b : Bool) (r s : Control) → b ≡ true → (if a && b then r else s) ≡ (if a then r else s)
by_tests true b r s is = rw is refl
by_tests false b r s is = refl

abbrev growing : Settings → Packet → Move
growing c p = Grow p.size (sent_mark c p)

-- the window after a packet was acknowledged
abbrev after : Settings → ℕ → Control → Packet → Control
after c d r p = if p.in_flight then moved d r (growing c p) else r

between_if : (d : ℕ) (here : Bool) (r s : Control) → r.window ≤ s.window → s.window ≤ r.window + 65527
    → (r.window ≤ (if here then s else r).window) × ((if here then s else r).window ≤ r.window + 65527)
between_if d true r s low high = (low, high)
between_if d false r s low high = ((omega arith), (omega arith))

after_between : (c : Settings) (d : ℕ) (r : Control) (p : Packet) → 0 < d → 2 * d ≤ r.window → p.size ≤ 65527 → (r.window ≤ (after c d r p).window) × ((after c d r p).window ≤ r.window + 65527)
after_between c d r p some low small =
    let least : r.window ≤ (moved d r (growing c p)).window = grow_at_least d p.size r (is_outside_recovery r.recovery_start_time (sent_mark c p)) in
    let most = grown_little d r p.size (sent_mark c p) some low in
    between_if d p.in_flight r (moved d r (growing c p)) least (omega (arith, most, small))

fold_if : (c : Settings) (d : ℕ) (r : Control) (p : Packet) (ps : List Packet) (here : Bool)
    → fold (moved d) (if here then moved d r (growing c p) else r) (map (growing c) (filter flies ps)) ≡ fold (moved d) r (map (growing c) (if here then p ∷ filter flies ps else filter flies ps))
fold_if c d r p ps true = refl
fold_if c d r p ps false = refl

-- while there is room, each in-flight packet is a move
grown_all : (c : Settings) (h : List Event) (d : ℕ) (ps : List Packet) (r : Control) → 0 < d → AllByRecursion IsSized ps → 2 * d ≤ r.window
    → r.window + 65527 * length ps ≤ 4611686018427387904
    → d ≡ c.max_datagram_size → fold (grown_by c) r (map (sent_of c h) ps) ≡ fold (moved d) r (map (growing c) (filter flies ps))
grown_all c h d [] r some all low room is_d = refl
grown_all c h d (p ∷ ps) r some all low room is_d =
    let here = all.0 in
    let small = here.1 in
    let grows_then : can_grow r.window p.size ≡ true = can r.window p.size (omega (arith, low, some)) (omega (arith, room)) here.0 here.1 in
    let one : grown_by c r (sent_of c h p) ≡ after c d r p =
    by_tests p.in_flight (can_grow r.window p.size) (grow c.max_datagram_size p.size (sent_mark c p) r) r grows_then ∙ ap (λ n. if p.in_flight then grow n p.size (sent_mark c p) r else r) (sym is_d) in
    let both = after_between c d r p some low small in
    let least = both.0 in
    let most = both.1 in
    ap (λ (s : Control). fold (grown_by c) s (map (sent_of c h) ps)) one
    ∙ (grown_all c h d ps (after c d r p) some all.1 (omega (arith, low, least)) (omega (arith, most, room)) is_d ∙ fold_if c d r p ps p.in_flight)

-- ---- losses first

pub hits_is : (c : Settings) (now : ℕ) (ps : List Packet) → congestion_events c now ps ≡ hits_at now (last_sent c ps)
hits_is c now [] = refl
hits_is c now (p ∷ ps) = refl

-- two datagrams at least, and at most so many bytes
abbrev IsBetween : ℕ → ℕ → Control → Type 0
IsBetween d most r = (2 * d ≤ r.window) × (r.window ≤ most)

hit_if : (d most now : ℕ) (r : Control) (here : Bool) → IsBetween d most r
    → IsBetween d most (if here then record { window = max (r.window / 2) (2 * d); ssthresh = Some (r.window / 2); recovery_start_time = Some now } else r)
hit_if d most now r true is = let low = is.0 in let high = is.1 in ((omega arith), (omega (arith, low, high)))
hit_if d most now r false is = is

hit_between : (d most now : ℕ) (r : Control) (last : Option ℕ) → IsBetween d most r → IsBetween d most (fold (moved d) r (hits_at now last))
hit_between d most now r None is = is
hit_between d most now r (Some last) is = hit_if d most now r (is_outside_recovery r.recovery_start_time last) is

collapse_between : (d most : ℕ) (r : Control) (b : Bool) → IsBetween d most r → IsBetween d most (fold (moved d) r (persistent_congestions b))
collapse_between d most r true is = let low = is.0 in let high = is.1 in ((omega arith), (omega (arith, low, high)))
collapse_between d most r false is = is

-- ---- the moves of an event

three : (d : ℕ) (r : Control) (xs ys zs : List Move) → fold (moved d) r ((xs ++ ys) ++ zs) ≡ fold (moved d) (fold (moved d) (fold (moved d) r xs) ys) zs
three d r xs ys zs = fold-append (moved d) r (xs ++ ys) zs ∙ ap (λ (x : Control). fold (moved d) x zs) (fold-append (moved d) r xs ys)

growth_if : (c : Settings) (e : Event) (h : List Event) (d : ℕ) (r : Control) (app_limited : Bool)
    → fold (grown_by c) r (acknowledged_by c e h) ≡ fold (moved d) r (grows c (newly_acknowledged (e ∷ h)))
    → fold (grown_by c) r (if app_limited then [] else acknowledged_by c e h) ≡ fold (moved d) r (if app_limited then [] else grows c (newly_acknowledged (e ∷ h)))
growth_if c e h d r true same = refl
growth_if c e h d r false same = same

grown_is : (c : Settings) (e : Event) (h : List Event) (d : ℕ) (r : Control) → d ≡ c.max_datagram_size → 0 < d → AllByRecursion Fits h → length h < 2 ^ 32 → IsBetween d (2 ^ 60) r
    → fold (grown_by c) r (acknowledged_by c e h) ≡ fold (moved d) r (grows c (newly_acknowledged (e ∷ h)))
grown_is c e h d r is_d some fit few is =
    let new = newly_acknowledged (e ∷ h) in
    let high = is.1 in
    let fewer = newly_few e h in
    let many = length-reverse new in
    let all = sized_turned new (each_of_part IsSized (is_newly_acknowledged e h) (packets h) (sized h fit)) in
    grown_all c h d (reverse new) r some all is.0 (omega (arith, high, fewer, many, few)) is_d
    ∙ ap (λ (ps : List Packet). fold (moved d) r (map (growing c) ps)) (part_turned new)

-- the window after an event, from what it newly acknowledges and what is lost by it
pub reno_is : (c : Settings) (e : Event) (h : List Event) → AreInRange c → AllByRecursion Fits h → length h < 2 ^ 32
    → steps.reno_after c (reno c h) (event_mark c (detection_of (e ∷ h))) e (acknowledged_by c e h) (last_sent c (declared c (e ∷ h))) (is_persistent c (e ∷ h)) ≡ reno c (e ∷ h)
reno_is c e h range fit few =
    let d = c.max_datagram_size in
    let datagram_low = range.datagram_low in
    let now = event_mark c (detection_of (e ∷ h)) in
    let last = last_sent c (declared c (e ∷ h)) in
    let b = is_persistent c (e ∷ h) in
    let on_congestion_event : Control = fold (moved d) (reno c h) (hits_at now last) in
    let collapsed : Control = fold (moved d) on_congestion_event (persistent_congestions b) in
    let bound = window_bound c h range fit few in
    let between : IsBetween d (2 ^ 60) collapsed = collapse_between d (2 ^ 60) on_congestion_event b (hit_between d (2 ^ 60) now (reno c h) last bound) in
    let ys = persistent_congestions b in
    let zs : List Move = if is_app_limited e then [] else grows c (newly_acknowledged (e ∷ h)) in
    growth_if c e h d collapsed (is_app_limited e) (grown_is c e h d collapsed refl (omega (arith, datagram_low)) fit few between)
    ∙ (ap (λ (xs : List Move). fold (moved d) (fold (moved d) (fold (moved d) (reno c h) xs) ys) zs) (sym (hits_is c now (declared c (e ∷ h))))
    ∙ (sym (three d (reno c h) (congestion_events c now (declared c (e ∷ h))) ys zs) ∙ sym (reno_after c e h)))

-- .. from what is told of it
pub reno_of : (c : Settings) (e : Event) (h : List Event) (header : Settings) (before : Control) (now : ℕ) (acknowledged : List SentPacket) (last : Option ℕ) (persistent : Bool)
    → header ≡ c → before ≡ reno c h → now ≡ event_mark c (detection_of (e ∷ h)) → acknowledged ≡ acknowledged_by c e h → last ≡ last_sent c (declared c (e ∷ h)) → persistent ≡ is_persistent c (e ∷ h)
    → AreInRange c → AllByRecursion Fits h → length h < 2 ^ 32
    → steps.reno_after header before now e acknowledged last persistent ≡ reno c (e ∷ h)
reno_of c e h header before now acknowledged last persistent is_header is is_now are is_last is_persistent_then range fit few =
    rw (is_header, is, is_now, are, is_last, is_persistent_then) (reno_is c e h range fit few)

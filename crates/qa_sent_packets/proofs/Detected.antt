-- What a detection makes of the packets.
use Rattle.std.proofs.Common.{◌≡◌, ◌∙◌, ℕ, ◌+◌, ◌-◌, ◌≤◌, ◌<◌, Bool, true, false, ◌&&◌, ◌||◌, not, List, [], ◌∷◌, ◌++◌, length, get_or, set, map, take, drop, count_by, Option, Some, None, refl, sym, ap, subst, arith, inl, inr}
use Rattle.std.specs.Prelude.{if◌then◌else◌, nat_lt}
use Rattle.std.specs.List.{AllByRecursion}
use Rattle.std.proofs.lemmas.Bool.{and_parts, and_from, both_ways, false_from_ne_true, le-leb, leb-true, lt-ltb, ltb-true, or_cases, or_left, or_right}
use Rattle.std.proofs.lemmas.List.{drop_at, length-map, length-take-le, map-append, take-append-drop, take-map}
use Rattle.qa_base.specs.declared.space.Space.{Space}
use Rattle.qa_base.specs.machine.Detection.{is_old}
use Rattle.qa_base.specs.machine.Packets.{Packet}
use Rattle.qa_base.specs.machine.Rtt.{Estimate, loss_delay}
use Rattle.qa_base.specs.values.Events.{is_space}
use Rattle.qa_base.specs.values.Settings.{Settings, is_may}
use Rattle.qa_sent_packets.specs.Detection.{IsEnd, lost_in}
use Rattle.qa_sent_packets.specs.BySpace.{awaiting_count}
use Rattle.qa_sent_packets.specs.Fates.{flight_bytes, is_flying, is_open, is_owed, is_unacknowledged, is_waiting}
use Rattle.qa_sent_packets.specs.Held.{AreLosses, AreOrdered, IsBefore, IsIndexed, NoneFlies}
use Rattle.qa_sent_packets.specs.Owing.{NoneOwed}
use Rattle.qa_sent_packets.specs.Steps.{Thresholds, found_by, is_past_threshold_by, packet_at, with_fate}
use Rattle.qa_sent_packets.specs.declared.fate.Fate.{Fate}
use Rattle.qa_sent_packets.specs.declared.fate.Fate.TheVariants.{Open, Owed, DeclaredLost, Acknowledged, Discarded}
use Rattle.qa_sent_packets.specs.declared.space_packets.SpacePackets.{SpacePackets}
use Rattle.qa_sent_packets.specs.declared.packet.SentPacket.{SentPacket}
use Rattle.qa_sent_packets.proofs.Alike.{IsAlike, IsSame, alike_if, alike_other, not_other, ordered_drop, same_if, space_is}
use Rattle.qa_sent_packets.proofs.Entries.{same_entries}
use Rattle.qa_sent_packets.proofs.Parts.{each_drop, each_map, each_take, each_weaker, map_same}
use Rattle.qa_sent_packets.proofs.Sums.{taken_off}

-- ---- a packet in flight

flying_parts : (s : Space) (p : SentPacket) → is_flying s p ≡ true → (is_space s p.space ≡ true) × (is_open p.fate ≡ true)
flying_parts s p flies =
    let two = and_parts (is_space s p.space) (p.in_flight && is_open p.fate) flies in
    (two.0, (and_parts p.in_flight (is_open p.fate) two.1).1)

flies_here : (s : Space) (p : SentPacket) → is_flying s p ≡ true → is_space s p.space ≡ true
flies_here s p flies = (flying_parts s p flies).0

waits_open : (f : Fate) → is_open f ≡ true → is_unacknowledged Owed ≡ is_unacknowledged f
waits_open Open e = refl
waits_open Owed e = cc
waits_open DeclaredLost e = cc
waits_open Acknowledged e = cc
waits_open Discarded e = cc

all_off : (a b : Bool) → (a && (b && false)) ≡ false
all_off true true = refl
all_off true false = refl
all_off false b = refl

not_flying : (s : Space) (f : Fate) (p : SentPacket) → is_open f ≡ false → is_flying s (with_fate f p) ≡ false
not_flying s f p closed = ap (λ b. is_space s p.space && (p.in_flight && b)) closed ∙ all_off (is_space s p.space) p.in_flight

-- ---- one is marked

pub marked : (s : Space) (d : ℕ) (ps : List SentPacket) (before after : SpacePackets) (at : ℕ) (p : SentPacket) → IsIndexed s d ps before → at < length ps → p ≡ get_or ps at p → is_flying s p ≡ true
    → after.unacknowledged.entries ≡ before.unacknowledged.entries → after.in_flight + flight_bytes p ≡ before.in_flight → after.awaiting + awaiting_count p ≡ before.awaiting
    → IsIndexed s d (set ps at (with_fate Owed p)) after
marked s d ps before after at p indexed within is flies entries less_bytes less_awaiting =
    let parts = flying_parts s p flies in
    let off = taken_off s d ps before after at p Owed refl indexed within is parts.0 less_bytes less_awaiting in
    let waits : is_waiting s (with_fate Owed p) ≡ is_waiting s p = ap (λ b. is_space s p.space && b) (waits_open p.fate parts.1) in
    record {
      entries = entries ∙ (indexed.entries ∙ sym (same_entries s d ps at p (with_fate Owed p) is refl waits));
      in_flight = off.in_flight;
      awaiting = off.awaiting;
    }

-- ---- what becomes of one packet

found_if : (p : SentPacket) (b : Bool) → b ≡ false → (if b then with_fate Owed p else p) ≡ p
found_if p true is = cc
found_if p false is = refl

found_out : (s : Space) (l : Thresholds) (p : SentPacket) → is_flying s p ≡ false → found_by s l p ≡ p
found_out s l p out = found_if p (is_flying s p && is_past_threshold_by l p) (ap (λ b. b && is_past_threshold_by l p) out)

passed_if : (p : SentPacket) (flies late : Bool) → (flies ≡ true → late ≡ true) → (if flies then with_fate Owed p else p) ≡ (if flies && late then with_fate Owed p else p)
passed_if p true late goes = ap (λ b. if b then with_fate Owed p else p) (sym (goes refl))
passed_if p false late goes = refl

pub found_passed : (s : Space) (l : Thresholds) (p : SentPacket) → (is_flying s p ≡ true → is_past_threshold_by l p ≡ true) → lost_in s p ≡ found_by s l p
found_passed s l p goes = passed_if p (is_flying s p) (is_past_threshold_by l p) goes

grounded_if : (s : Space) (p : SentPacket) (b : Bool) → is_flying s p ≡ b → is_flying s (if b then with_fate Owed p else p) ≡ false
grounded_if s p true is = not_flying s Owed p refl
grounded_if s p false is = is

pub grounded : (s : Space) (p : SentPacket) → is_flying s (lost_in s p) ≡ false
grounded s p = grounded_if s p (is_flying s p) refl

of_space_if : (s : Space) (p : SentPacket) (b : Bool) → (b ≡ true → is_space s p.space ≡ true) → is_owed p.fate ≡ false
    → is_owed ((if b then with_fate Owed p else p).fate) ≡ true → is_space s ((if b then with_fate Owed p else p).space) ≡ true
of_space_if s p true here none owed = here refl
of_space_if s p false here none owed = absurd (both_ways (is_owed p.fate) none owed)

found_here : (s : Space) (l : Thresholds) (p : SentPacket) → (is_flying s p && is_past_threshold_by l p) ≡ true → is_space s p.space ≡ true
found_here s l p found = flies_here s p (and_parts (is_flying s p) (is_past_threshold_by l p) found).0

pub found_same : (s : Space) (l : Thresholds) (p : SentPacket) → IsSame p (found_by s l p)
found_same s l p = same_if (is_flying s p && is_past_threshold_by l p) Owed p

pub found_alike : (s : Space) (l : Thresholds) (t : Space) → is_space t s ≡ false → (p : SentPacket) → IsAlike t p (found_by s l p)
found_alike s l t out p = alike_if t (is_flying s p && is_past_threshold_by l p) Owed p (λ found. alike_other t Owed p (not_other t s p out (found_here s l p found)))

-- ---- thresholds falls

-- what was sent no later is no less old
earlier_is_old : (c : Settings) (r : Estimate) (now : ℕ) (p q : Packet) → q.time ≤ p.time → is_old c r now p ≡ true → is_old c r now q ≡ true
earlier_is_old c r now p q earlier old =
    let waited = leb-true (loss_delay c r) (now - p.time) old in
    le-leb (loss_delay c r) (now - q.time) (omega (arith, earlier, waited))

-- of two packets, if the one with the higher number, sent no earlier, is late, so is the other
earlier_is_past_threshold : (l : Thresholds) (o : Option ℕ) (p q : SentPacket) → l.largest ≡ o → q.number ≤ p.number → q.time ≤ p.time
    → is_past_threshold_by l p ≡ true → is_past_threshold_by l q ≡ true
earlier_is_past_threshold l None p q is lower earlier late = let not_late = rw is at late in cc
earlier_is_past_threshold l (Some largest) p q is lower earlier late =
    let must = not (is_may l.header.options.loss_by_number) in
    let old : SentPacket → Bool = λ x. is_old l.header l.rtt l.now (packet_at x) in
    let both = and_parts (nat_lt p.number largest) ((must && nat_lt p.number l.far_end) || old p) (rw is at late) in
    let below = ltb-true p.number largest both.0 in
    rw is (and_from (nat_lt q.number largest) ((must && nat_lt q.number l.far_end) || old q)
    (lt-ltb q.number largest (omega (arith, below, lower)))
    (elim (or_cases (must && nat_lt p.number l.far_end) (old p) both.1) [
      | inl far ↦ (let parts = and_parts must (nat_lt p.number l.far_end) far in
          let under = ltb-true p.number l.far_end parts.1 in
          or_left (must && nat_lt q.number l.far_end) (old q)
          (and_from must (nat_lt q.number l.far_end) parts.0 (lt-ltb q.number l.far_end (omega (arith, under, lower)))))
      | inr aged ↦ or_right (must && nat_lt q.number l.far_end) (old q) (earlier_is_old l.header l.rtt l.now (packet_at p) (packet_at q) earlier aged)
    ]))

-- behind a packet of the space that is not late none is found
not_behind : (s : Space) (l : Thresholds) (p q : SentPacket) → IsBefore q p → is_space s p.space ≡ true → is_past_threshold_by l p ≡ false → found_by s l q ≡ q
not_behind s l p q before here not_late =
    found_if q (is_flying s q && is_past_threshold_by l q) (false_from_ne_true (is_flying s q && is_past_threshold_by l q) (λ found.
    let both = and_parts (is_flying s q) (is_past_threshold_by l q) found in
    let there : is_space s q.space ≡ true = flies_here s q both.0 in
    let together : is_space q.space p.space ≡ true = subst (λ (x : Space). is_space x p.space ≡ true) (space_is s q.space there) here in
    let lower = before.number together in
    both_ways (is_past_threshold_by l p) not_late (earlier_is_past_threshold l l.largest q p refl (omega (arith, lower)) before.time both.1)))

off_right : (a : Bool) → (a && false) ≡ false
off_right true = refl
off_right false = refl

-- where a detection ends, nothing more is found
rest_kept : (s : Space) (l : Thresholds) (ps : List SentPacket) → AreOrdered ps → IsEnd s l ps → map (found_by s l) ps ≡ ps
rest_kept s l [] ordered end = refl
rest_kept s l (p ∷ ps) ordered end =
    let none : (is_flying s p && is_past_threshold_by l p) ≡ false = ap (λ b. is_flying s p && b) end.1 ∙ off_right (is_flying s p) in
    ap (λ q. q ∷ map (found_by s l) ps) (found_if p (is_flying s p && is_past_threshold_by l p) none)
    ∙ ap (λ qs. p ∷ qs) (map_same (found_by s l) ps
    (each_weaker (λ q. IsBefore q p) (λ q. found_by s l q ≡ q) (λ q before. not_behind s l p q before (flies_here s p end.0) end.1) ps ordered.0))

-- ---- what becomes of all

none_found : (s : Space) (l : Thresholds) (ps : List SentPacket) → NoneFlies s ps → map (found_by s l) ps ≡ ps
none_found s l ps none = map_same (found_by s l) ps (each_weaker (λ p. is_flying s p ≡ false) (λ p. found_by s l p ≡ p) (found_out s l) ps none)

pub detected_start : (s : Space) (l : Thresholds) (ps : List SentPacket) (n : ℕ) → NoneFlies s (take n ps) → ps ≡ map (found_by s l) (take n ps) ++ drop n ps
detected_start s l ps n none = sym (ap (λ qs. qs ++ drop n ps) (none_found s l (take n ps) none) ∙ take-append-drop n ps)

rest_is : (f : SentPacket → SentPacket) (ps ys : List SentPacket) (at : ℕ) → at ≤ length ps → ys ≡ map f (take at ps) ++ drop at ps → drop at ys ≡ drop at ps
rest_is f ps ys at within is = ap (drop at) is ∙ drop_at (map f (take at ps)) (drop at ps) at (length-map (take at ps) f ∙ length-take-le at ps within)

rest_found : (s : Space) (l : Thresholds) (ps ys : List SentPacket) (at : ℕ) → AreOrdered ps → at ≤ length ps → ys ≡ map (found_by s l) (take at ps) ++ drop at ps → IsEnd s l (drop at ys)
    → map (found_by s l) (drop at ps) ≡ drop at ps
rest_found s l ps ys at ordered within is end =
    rest_kept s l (drop at ps) (ordered_drop at ps ordered) (subst (IsEnd s l) (rest_is (found_by s l) ps ys at within is) end)

pub detected_all : (s : Space) (l : Thresholds) (ps ys : List SentPacket) (at : ℕ) → AreOrdered ps → at ≤ length ps → ys ≡ map (found_by s l) (take at ps) ++ drop at ps → IsEnd s l (drop at ys)
    → ys ≡ map (found_by s l) ps
detected_all s l ps ys at ordered within is end =
    is
    ∙ (ap (λ qs. map (found_by s l) (take at ps) ++ qs) (sym (rest_found s l ps ys at ordered within is end))
    ∙ (sym (map-append (found_by s l) (take at ps) (drop at ps)) ∙ ap (map (found_by s l)) (take-append-drop at ps)))

pub detected_losses : (s : Space) (l : Thresholds) (d : ℕ) (ps ys : List SentPacket) (at count from : ℕ) → AreOrdered ps → at ≤ length ps
    → ys ≡ map (found_by s l) (take at ps) ++ drop at ps → IsEnd s l (drop at ys)
    → NoneOwed ps → NoneFlies s (take (from - d) ps) → count ≡ count_by (λ p. is_owed p.fate) ys
    → AreLosses d ys (record { space = s; count = count; from = from; to = d + at })
detected_losses s l d ps ys at count from ordered within is end none before is_count =
    let f = found_by s l in
    let all : ys ≡ map f ps = detected_all s l ps ys at ordered within is end in
    let out : SentPacket → Type 0 = λ p. is_owed p.fate ≡ false in
    let place : (d + at) - d ≡ at = omega arith in
    record {
      count = is_count;
      of_space = subst (λ (qs : List SentPacket). AllByRecursion (λ p. is_owed p.fate ≡ true → is_space s p.space ≡ true) qs) (sym all)
          (each_map out (λ p. is_owed p.fate ≡ true → is_space s p.space ≡ true) f
          (λ p none owed. of_space_if s p (is_flying s p && is_past_threshold_by l p) (found_here s l p) none owed) ps none);
      before = subst NoneOwed (sym (ap (take (from - d)) all ∙ (take-map f (from - d) ps ∙ none_found s l (take (from - d) ps) before))) (each_take out ps (from - d) none);
      behind = subst NoneOwed (sym (ap (λ n. drop n ys) place ∙ rest_is f ps ys at within is)) (each_drop out ps at none);
    }

-- A packet more behind the others: what the part that is kept for the spaces, losses and order make of it.
use Rattle.std.proofs.Common.{◌≡◌, ◌∙◌, ℕ, zero, suc, ◌+◌, ◌-◌, ◌≤◌, ◌<◌, Bool, true, false, ◌&&◌, List, [], ◌∷◌, ◌++◌, length, take, drop, Result, Ok, Err, OnOk, OnErr, length-append, refl, sym, ap, subst, sum_by, arith, inl, inr, cond}
use Rattle.std.specs.Prelude.{if◌then◌else◌}
use Rattle.std.specs.List.{AllByRecursion}
use Rattle.qa_base.specs.declared.space.Space.{Space}
use Rattle.qa_base.specs.declared.space.Space.TheVariants.{Initial, Handshake, App}
use Rattle.qa_base.specs.values.Events.{is_space}
use Rattle.qa_base.specs.values.Limits.{max_packet_size}
use Rattle.qa_sent_packets.specs.Fates.{flight_bytes, flight_bytes_in, is_flying, is_open, is_owed, is_unacknowledged, is_waiting}
use Rattle.qa_sent_packets.specs.Held.{AreLosses, AreOrdered, FirstFlies, IsBefore, IsBehind, IsIndexed, IsSpacePackets, IsSound, NoneFlies, unacknowledged_in}
use Rattle.qa_sent_packets.specs.BySpace.{awaiting_count}
use Rattle.qa_base.specs.values.PerSpace.{of_space, with_space}
use Rattle.qa_sent_packets.specs.declared.fate.Fate.{Fate}
use Rattle.qa_sent_packets.specs.declared.fate.Fate.TheVariants.{Open}
use Rattle.qa_sent_packets.specs.declared.space_packets.SpacePackets.{SpacePackets}
use Rattle.qa_base.specs.declared.per_space.PerSpace.{PerSpace}
use Rattle.qa_sent_packets.specs.declared.packet.SentPacket.{SentPacket}
use Rattle.qa_sent_packets.specs.declared.packets.Losses.{Losses}
use Rattle.qa_sent_packets.proofs.Entries.{unacknowledged_push, unacknowledged_push_other, waits_here}
use Rattle.qa_sent_packets.proofs.Sound.{IsSoundBeside, beside, space_packets_sound, sound_with}
use Rattle.qa_sent_packets.proofs.Sums.{awaiting_elsewhere, awaiting_here, awaiting_in, bytes_elsewhere, bytes_here, sum_front, sum_push, sum_push_none}

-- ---- what holds of each

each_push : (P : SentPacket → Type 0) (ps : List SentPacket) (p : SentPacket) → AllByRecursion P ps → P p → AllByRecursion P (ps ++ p ∷ [])
each_push P [] p all here = (here, tt)
each_push P (x ∷ ps) p all here = (all.0, each_push P ps p all.1 here)

each_of_none : (P : SentPacket → Type 0) (n : ℕ) → AllByRecursion P (take n [])
each_of_none P zero = tt
each_of_none P (suc n) = tt

each_take_push : (P : SentPacket → Type 0) (n : ℕ) (ps : List SentPacket) (p : SentPacket) → AllByRecursion P (take n ps) → P p → AllByRecursion P (take n (ps ++ p ∷ []))
each_take_push P zero ps p all here = tt
each_take_push P (suc n) [] p all here = (here, each_of_none P n)
each_take_push P (suc n) (x ∷ ps) p all here = (all.0, each_take_push P n ps p all.1 here)

none_behind : (P : SentPacket → Type 0) (n : ℕ) → AllByRecursion P (drop n [])
none_behind P zero = tt
none_behind P (suc n) = tt

each_drop_push : (P : SentPacket → Type 0) (n : ℕ) (ps : List SentPacket) (p : SentPacket) → AllByRecursion P (drop n ps) → P p → AllByRecursion P (drop n (ps ++ p ∷ []))
each_drop_push P zero ps p all here = each_push P ps p all here
each_drop_push P (suc n) [] p all here = none_behind P n
each_drop_push P (suc n) (x ∷ ps) p all here = each_drop_push P n ps p all here

-- the first n stay the first n
each_take_kept : (P : SentPacket → Type 0) (n : ℕ) (ps : List SentPacket) (p : SentPacket) → n ≤ length ps → AllByRecursion P (take n ps) → AllByRecursion P (take n (ps ++ p ∷ []))
each_take_kept P zero ps p within all = tt
each_take_kept P (suc n) [] p within all = absurd (omega arith)
each_take_kept P (suc n) (x ∷ ps) p within all = (all.0, each_take_kept P n ps p (omega arith) all.1)

-- ---- what is kept for its space

pub space_same : (s : Space) → is_space s s ≡ true
space_same Initial = refl
space_same Handshake = refl
space_same App = refl

open_waits : (s : Space) (p : SentPacket) → is_space s p.space ≡ true → p.fate ≡ Open → is_waiting s p ≡ true
open_waits s p here is = rw (here, is) refl

below_if : (b : Bool) (d : ℕ) (q p : SentPacket) (es : List (ℕ × ℕ)) → (b ≡ true → q.number < p.number) → AllByRecursion (λ e. e.0 < p.number) es → AllByRecursion (λ e. e.0 < p.number) (if b then (q.number, d) ∷ es else es)
below_if true d q p es here rest = (here refl, rest)
below_if false d q p es here rest = rest

pub entries_below : (d : ℕ) (ps : List SentPacket) (p : SentPacket) → AllByRecursion (λ q. IsBefore p q) ps → AllByRecursion (λ e. e.0 < p.number) (unacknowledged_in p.space d ps)
entries_below d [] p before = tt
entries_below d (q ∷ ps) p before =
    below_if (is_waiting p.space q) d q p (unacknowledged_in p.space (suc d) ps) (λ waits. before.0.number (waits_here p.space q waits)) (entries_below (suc d) ps p before.1)

pub indexed_push : (s : Space) (d : ℕ) (ps : List SentPacket) (p : SentPacket) (before after : SpacePackets) (key place : ℕ) → is_space s p.space ≡ true → p.fate ≡ Open → IsIndexed s d ps before
    → key ≡ p.number → place ≡ d + length ps → after.unacknowledged.entries ≡ before.unacknowledged.entries ++ (key, place) ∷ []
    → after.in_flight ≡ before.in_flight + flight_bytes p → after.awaiting ≡ before.awaiting + awaiting_count p
    → IsIndexed s d (ps ++ p ∷ []) after
indexed_push s d ps p before after key place here is indexed key_is place_is entries more_bytes more_awaiting =
    let b = sum_push (flight_bytes_in s) ps p in let b' = bytes_here s p here in
    let a = sum_push (awaiting_in s) ps p in let a' = awaiting_here s p here in
    record {
      entries = entries
          ∙ (ap (λ k. before.unacknowledged.entries ++ (k, place) ∷ []) key_is
          ∙ (ap (λ k. before.unacknowledged.entries ++ (p.number, k) ∷ []) place_is
          ∙ (ap (λ es. es ++ (p.number, d + length ps) ∷ []) indexed.entries ∙ sym (unacknowledged_push s d ps p (open_waits s p here is)))));
      in_flight = omega (arith, b, b', more_bytes, indexed.in_flight);
      awaiting = omega (arith, a, a', more_awaiting, indexed.awaiting);
    }

pub behind_push : (s : Space) (d : ℕ) (ps : List SentPacket) (p : SentPacket) (next : ℕ) → IsBehind s d ps next → IsBehind s d (ps ++ p ∷ []) next
behind_push s d ps p next behind =
    let long : length (ps ++ p ∷ []) ≡ length ps + 1 = length-append ps (p ∷ []) in
    let low = behind.low in
    let high = behind.high in
    record {
      low = low;
      high = omega (arith, long, high);
      none = each_take_kept (λ q. is_flying s q ≡ false) (next - d) ps p (omega (arith, low, high)) behind.none;
    }

-- ---- a packet of it that flies already

zero_of : (b : Bool) (c : Bool) (n : ℕ) → (b && c) ≡ false → (if b then (if c then n else 0) else 0) ≡ 0
zero_of true c n out = rw out refl
zero_of false c n out = refl

no_sum : (s : Space) (ps : List SentPacket) → NoneFlies s ps → sum_by (flight_bytes_in s) ps ≡ 0
no_sum s [] none = refl
no_sum s (p ∷ ps) none = sum_front (flight_bytes_in s) p ps (zero_of (is_space s p.space) (p.in_flight && is_open p.fate) p.size none.0) ∙ no_sum s ps none.1

-- where bytes are in flight, the first packet that flies stays the first
first_stays : (s : Space) (n : ℕ) (ps : List SentPacket) (p : SentPacket) → 0 < sum_by (flight_bytes_in s) ps → NoneFlies s (take n ps) → FirstFlies s (drop n ps) → FirstFlies s (drop n (ps ++ p ∷ []))
first_stays s zero [] p some none first = absurd (omega arith)
first_stays s zero (x ∷ ps) p some none first = elim first [
  | inl flies ↦ inl flies
  | inr none ↦ (let z = no_sum s (x ∷ ps) none in absurd (omega (arith, some, z)))
]
first_stays s (suc n) [] p some none first = absurd (omega arith)
first_stays s (suc n) (x ∷ ps) p some none first =
    let e = sum_front (flight_bytes_in s) x ps (zero_of (is_space s x.space) (x.in_flight && is_open x.fate) x.size none.0) in
    first_stays s n ps p (rw e at some) none.1 first

pub space_packets_stays : (s : Space) (d : ℕ) (ps : List SentPacket) (p : SentPacket) (before after : SpacePackets) → IsSpacePackets s d ps before → 0 < before.in_flight → IsIndexed s d (ps ++ p ∷ []) after → after.next ≡ before.next
    → IsSpacePackets s d (ps ++ p ∷ []) after
space_packets_stays s d ps p before after is some indexed same = record {
  indexed = indexed;
  behind = subst (λ n. IsBehind s d (ps ++ p ∷ []) n) (sym same) (behind_push s d ps p before.next is.behind);
  first = subst (λ n. FirstFlies s (drop (n - d) (ps ++ p ∷ []))) (sym same) (first_stays s (before.next - d) ps p (rw is.indexed.in_flight at some) is.behind.none is.first);
}

-- ---- what is kept for the other spaces

off : (b c : Bool) → b ≡ false → (b && c) ≡ false
off true c out = cc
off false c out = refl

first_push : (s : Space) (n : ℕ) (ps : List SentPacket) (p : SentPacket) → n ≤ length ps → is_flying s p ≡ false → FirstFlies s (drop n ps) → FirstFlies s (drop n (ps ++ p ∷ []))
first_push s zero [] p within out first = inr (out, tt)
first_push s zero (x ∷ ps) p within out first = elim first [
  | inl flies ↦ inl flies
  | inr none ↦ inr (none.0, each_push (λ q. is_flying s q ≡ false) ps p none.1 out)
]
first_push s (suc n) [] p within out first = absurd (omega arith)
first_push s (suc n) (x ∷ ps) p within out first = first_push s n ps p (omega arith) out first

indexed_elsewhere : (s : Space) (d : ℕ) (ps : List SentPacket) (p : SentPacket) (space_packets : SpacePackets) → is_space s p.space ≡ false → IsIndexed s d ps space_packets → IsIndexed s d (ps ++ p ∷ []) space_packets
indexed_elsewhere s d ps p space_packets out indexed = record {
  entries = indexed.entries ∙ sym (unacknowledged_push_other s d ps p (off (is_space s p.space) (is_unacknowledged p.fate) out));
  in_flight = indexed.in_flight ∙ sym (sum_push_none (flight_bytes_in s) ps p (bytes_elsewhere s p out));
  awaiting = indexed.awaiting ∙ sym (sum_push_none (awaiting_in s) ps p (awaiting_elsewhere s p out));
}

space_packets_elsewhere : (s : Space) (d : ℕ) (ps : List SentPacket) (p : SentPacket) (space_packets : SpacePackets) → is_space s p.space ≡ false → IsSpacePackets s d ps space_packets → IsSpacePackets s d (ps ++ p ∷ []) space_packets
space_packets_elsewhere s d ps p space_packets out is =
    let low = is.behind.low in
    let high = is.behind.high in
    record {
      indexed = indexed_elsewhere s d ps p space_packets out is.indexed;
      behind = behind_push s d ps p space_packets.next is.behind;
      first = first_push s (space_packets.next - d) ps p (omega (arith, low, high)) (off (is_space s p.space) (p.in_flight && is_open p.fate) out) is.first;
    }

-- ---- all of it

open_not_owed : (f : Fate) → f ≡ Open → is_owed f ≡ false
open_not_owed f is = ap is_owed is

losses_push : (d : ℕ) (ps : List SentPacket) (p : SentPacket) (losses : Losses) → p.fate ≡ Open → AreLosses d ps losses → AreLosses d (ps ++ p ∷ []) losses
losses_push d ps p losses is are =
    let out = open_not_owed p.fate is in
    record {
      count = are.count ∙ sym (sum_push_none (λ q. cond (is_owed q.fate) 1 0) ps p (rw out refl));
      of_space = each_push (λ q. is_owed q.fate ≡ true → is_space losses.space q.space ≡ true) ps p are.of_space (λ owed. cc);
      before = each_take_push (λ q. is_owed q.fate ≡ false) (losses.from - d) ps p are.before out;
      behind = each_drop_push (λ q. is_owed q.fate ≡ false) (losses.to - d) ps p are.behind out;
    }

ordered_push : (ps : List SentPacket) (p : SentPacket) → AreOrdered ps → AllByRecursion (λ q. IsBefore p q) ps → AreOrdered (ps ++ p ∷ [])
ordered_push [] p ordered before = (tt, tt)
ordered_push (q ∷ ps) p ordered before = (each_push (λ x. IsBefore x q) ps p ordered.0 before.0, ordered_push ps p ordered.1 before.1)

beside_push : (d : ℕ) (ps : List SentPacket) (p : SentPacket) (losses : Losses) (strays : PerSpace (List SentPacket)) → p.fate ≡ Open → p.size ≤ max_packet_size → AllByRecursion (λ q. IsBefore p q) ps → d + length ps < 4294967295
    → AllByRecursion (λ q. q.number < p.number) (of_space p.space strays) → IsSoundBeside d ps losses strays → IsSoundBeside d (ps ++ p ∷ []) losses strays
beside_push d ps p losses strays is small before few aside b =
    let long : length (ps ++ p ∷ []) ≡ length ps + 1 = length-append ps (p ∷ []) in
    record {
      owed = losses_push d ps p losses is b.owed;
      ordered = ordered_push ps p b.ordered before;
      sizes = each_push (λ (q : SentPacket). q.size ≤ max_packet_size) ps p b.sizes small;
      few = omega (arith, long, few);
      above = each_push (λ (q : SentPacket). AllByRecursion (λ (x : SentPacket). x.number < q.number) (of_space q.space strays)) ps p b.above aside;
    }

pub sound_push : {strays : PerSpace (List SentPacket)} (d : ℕ) (ps : List SentPacket) (p : SentPacket) (losses : Losses) (by_space : PerSpace SpacePackets) (space_packets : SpacePackets) → p.fate ≡ Open → p.size ≤ max_packet_size
    → AllByRecursion (λ q. IsBefore p q) ps → d + length ps < 4294967295 → AllByRecursion (λ q. q.number < p.number) (of_space p.space strays) → IsSound d ps losses by_space strays → IsSpacePackets p.space d (ps ++ p ∷ []) space_packets
    → IsSound d (ps ++ p ∷ []) losses (with_space p.space by_space space_packets) strays
sound_push {strays} d ps p losses by_space space_packets is small before few aside sound own =
    sound_with d (ps ++ p ∷ []) losses by_space p.space space_packets (beside_push d ps p losses strays is small before few aside (beside d ps losses by_space strays sound)) own
    (λ t out. space_packets_elsewhere t d ps p (of_space t by_space) out (space_packets_sound d ps losses by_space sound t))

-- where it was out of memory, all is as it was
pub sound_added : {E : Type 0} {strays : PerSpace (List SentPacket)} (result : Result (Unit {0}) E) (d : ℕ) (ps after : List SentPacket) (p : SentPacket) (losses : Losses) (by_space : PerSpace SpacePackets) (space_packets : SpacePackets) → p.fate ≡ Open
    → p.size ≤ max_packet_size → AllByRecursion (λ q. IsBefore p q) ps → d + length ps < 4294967295 → AllByRecursion (λ q. q.number < p.number) (of_space p.space strays) → IsSound d ps losses by_space strays → OnOk result (after ≡ ps ++ p ∷ []) → OnErr result (after ≡ ps)
    → IsSpacePackets p.space d after space_packets → IsSound d after losses (with_space p.space by_space space_packets) strays
sound_added (Ok _) d ps after p losses by_space space_packets is small before few aside sound added same own =
    rw added (sound_push d ps p losses by_space space_packets is small before few aside sound (rw added at own))
sound_added {strays = strays} (Err _) d ps after p losses by_space space_packets is small before few aside sound added same own =
    rw same (sound_with d ps losses by_space p.space space_packets (beside d ps losses by_space strays sound) (rw same at own) (λ t out. space_packets_sound d ps losses by_space sound t))

-- What a change of fates leaves as it was: what the part that is kept for a space tells of the packets, and their order.
use Rattle.std.proofs.Common.{◌≡◌, ◌∙◌, ℕ, zero, suc, ◌+◌, ◌-◌, ◌≤◌, Bool, true, false, ◌&&◌, List, [], ◌∷◌, length, map, take, drop, cond, count_by, sum_by, refl, sym, ap, subst, arith, inl, inr}
use Rattle.std.specs.Prelude.{if◌then◌else◌}
use Rattle.std.specs.List.{AllByRecursion}
use Rattle.std.proofs.lemmas.List.{length-map, take-map, drop-map}
use Rattle.std.proofs.lemmas.List.Sums.{sum_by-cons}
use Rattle.qa_base.specs.declared.space.Space.{Space}
use Rattle.qa_base.specs.declared.space.Space.TheVariants.{Initial, Handshake, App}
use Rattle.qa_base.specs.values.Events.{is_space}
use Rattle.qa_sent_packets.specs.Fates.{flight_bytes, flight_bytes_in, is_awaiting, is_flying, is_open, is_unacknowledged, is_waiting}
use Rattle.qa_sent_packets.specs.Held.{AreOrdered, FirstFlies, IsBefore, IsBehind, IsIndexed, IsSpacePackets, NoneFlies, unacknowledged_in}
use Rattle.qa_sent_packets.specs.Steps.{with_fate}
use Rattle.qa_sent_packets.specs.declared.fate.Fate.{Fate}
use Rattle.qa_sent_packets.specs.declared.space_packets.SpacePackets.{SpacePackets}
use Rattle.qa_sent_packets.specs.declared.packet.SentPacket.{SentPacket}
use Rattle.qa_sent_packets.proofs.Parts.{each_map}

-- ---- what the part that is kept for a space tells

-- what is kept for the space tells the same of the two
pub record IsAlike (t : Space) (p q : SentPacket) : Type 0 where
  pub number : q.number ≡ p.number
  pub waits : is_waiting t q ≡ is_waiting t p
  pub flies : is_flying t q ≡ is_flying t p
  pub bytes : flight_bytes_in t q ≡ flight_bytes_in t p
  pub awaits : is_awaiting t q ≡ is_awaiting t p

pub entries_alike : (t : Space) (f : SentPacket → SentPacket) → ((p : SentPacket) → IsAlike t p (f p)) → (place : ℕ) (ps : List SentPacket)
    → unacknowledged_in t place (map f ps) ≡ unacknowledged_in t place ps
entries_alike t f each place [] = refl
entries_alike t f each place (p ∷ ps) =
    let rest = unacknowledged_in t (suc place) ps in
    ap (λ es. if is_waiting t (f p) then ((f p).number, place) ∷ es else es) (entries_alike t f each (suc place) ps)
    ∙ (ap (λ b. if b then ((f p).number, place) ∷ rest else rest) (each p).waits
    ∙ ap (λ n. if is_waiting t p then (n, place) ∷ rest else rest) (each p).number)

pub sum_alike : (weight : SentPacket → ℕ) (f : SentPacket → SentPacket) → ((p : SentPacket) → weight (f p) ≡ weight p) → (ps : List SentPacket)
    → sum_by weight (map f ps) ≡ sum_by weight ps
sum_alike weight f each [] = refl
sum_alike weight f each (p ∷ ps) =
    let rest = sum_alike weight f each ps in
    let after : sum_by weight (f p ∷ map f ps) ≡ weight (f p) + sum_by weight (map f ps) = sum_by-cons weight (f p) (map f ps) in
    let before : sum_by weight (p ∷ ps) ≡ weight p + sum_by weight ps = sum_by-cons weight p ps in
    let same = each p in
    omega (arith, rest, after, before, same)

pub count_alike : (test : SentPacket → Bool) (f : SentPacket → SentPacket) → ((p : SentPacket) → test (f p) ≡ test p) → (ps : List SentPacket)
    → count_by test (map f ps) ≡ count_by test ps
count_alike test f each ps = sum_alike (λ p. cond (test p) 1 0) f (λ p. ap (λ b. cond b 1 0) (each p)) ps

pub none_alike : (t : Space) (f : SentPacket → SentPacket) → ((p : SentPacket) → IsAlike t p (f p)) → (ps : List SentPacket) → NoneFlies t ps → NoneFlies t (map f ps)
none_alike t f each ps none = each_map (λ p. is_flying t p ≡ false) (λ p. is_flying t p ≡ false) f (λ p out. (each p).flies ∙ out) ps none

pub first_alike : (t : Space) (f : SentPacket → SentPacket) → ((p : SentPacket) → IsAlike t p (f p)) → (ps : List SentPacket) → FirstFlies t ps → FirstFlies t (map f ps)
first_alike t f each [] first = tt
first_alike t f each (p ∷ ps) first = elim first [
  | inl flies ↦ inl ((each p).flies ∙ flies)
  | inr none ↦ inr (none_alike t f each (p ∷ ps) none)
]

pub indexed_alike : (t : Space) (f : SentPacket → SentPacket) → ((p : SentPacket) → IsAlike t p (f p)) → (d : ℕ) (ps : List SentPacket) (space_packets : SpacePackets)
    → IsIndexed t d ps space_packets → IsIndexed t d (map f ps) space_packets
indexed_alike t f each d ps space_packets i = record {
  entries = i.entries ∙ sym (entries_alike t f each d ps);
  in_flight = i.in_flight ∙ sym (sum_alike (flight_bytes_in t) f (λ p. (each p).bytes) ps);
  awaiting = i.awaiting ∙ sym (count_alike (is_awaiting t) f (λ p. (each p).awaits) ps);
}

pub behind_alike : (t : Space) (f : SentPacket → SentPacket) → ((p : SentPacket) → IsAlike t p (f p)) → (d : ℕ) (ps : List SentPacket) (next : ℕ)
    → IsBehind t d ps next → IsBehind t d (map f ps) next
behind_alike t f each d ps next b =
    let long : length (map f ps) ≡ length ps = length-map ps f in
    let high = b.high in
    record {
      low = b.low;
      high = omega (arith, high, long);
      none = subst (NoneFlies t) (sym (take-map f (next - d) ps)) (none_alike t f each (take (next - d) ps) b.none);
    }

-- what is kept for a space tells of the changed packets what it told
pub space_packets_alike : (t : Space) (f : SentPacket → SentPacket) → ((p : SentPacket) → IsAlike t p (f p)) → (d : ℕ) (ps : List SentPacket) (space_packets : SpacePackets)
    → IsSpacePackets t d ps space_packets → IsSpacePackets t d (map f ps) space_packets
space_packets_alike t f each d ps space_packets l = record {
  indexed = indexed_alike t f each d ps space_packets l.indexed;
  behind = behind_alike t f each d ps space_packets.next l.behind;
  first = subst (FirstFlies t) (sym (drop-map f (space_packets.next - d) ps)) (first_alike t f each (drop (space_packets.next - d) ps) l.first);
}

-- ---- of which packets it tells the same

pub alike_if : (t : Space) (b : Bool) (g : Fate) (p : SentPacket) → (b ≡ true → IsAlike t p (with_fate g p)) → IsAlike t p (if b then with_fate g p else p)
alike_if t true g p is = is refl
alike_if t false g p is = record { number = refl; waits = refl; flies = refl; bytes = refl; awaits = refl }

and_off : (b x y : Bool) → b ≡ false → (b && x) ≡ (b && y)
and_off true x y out = cc
and_off false x y out = refl

if_off : (b : Bool) (x y : ℕ) → b ≡ false → (if b then x else 0) ≡ (if b then y else 0)
if_off true x y out = cc
if_off false x y out = refl

-- of one of another space, whatever becomes of it
pub alike_other : (t : Space) (g : Fate) (p : SentPacket) → is_space t p.space ≡ false → IsAlike t p (with_fate g p)
alike_other t g p out = record {
  number = refl;
  waits = and_off (is_space t p.space) (is_unacknowledged g) (is_unacknowledged p.fate) out;
  flies = and_off (is_space t p.space) (p.in_flight && is_open g) (p.in_flight && is_open p.fate) out;
  bytes = if_off (is_space t p.space) (flight_bytes (with_fate g p)) (flight_bytes p) out;
  awaits = and_off (is_space t p.space) (p.eliciting && is_open g) (p.eliciting && is_open p.fate) out;
}

-- of one whose fate was open, or waited, as its new one is
pub alike_same : (t : Space) (g : Fate) (p : SentPacket) → is_unacknowledged g ≡ is_unacknowledged p.fate → is_open g ≡ is_open p.fate → IsAlike t p (with_fate g p)
alike_same t g p waits opens = record {
  number = refl;
  waits = ap (λ b. is_space t p.space && b) waits;
  flies = ap (λ b. is_space t p.space && (p.in_flight && b)) opens;
  bytes = ap (λ b. if is_space t p.space then (if p.in_flight && b then p.size else 0) else 0) opens;
  awaits = ap (λ b. is_space t p.space && (p.eliciting && b)) opens;
}

pub space_is : (a b : Space) → is_space a b ≡ true → a ≡ b
space_is Initial Initial e = refl
space_is Handshake Handshake e = refl
space_is App App e = refl
space_is Initial Handshake e = cc
space_is Initial App e = cc
space_is Handshake Initial e = cc
space_is Handshake App e = cc
space_is App Initial e = cc
space_is App Handshake e = cc

pub not_other : (t s : Space) (p : SentPacket) → is_space t s ≡ false → is_space s p.space ≡ true → is_space t p.space ≡ false
not_other t s p out here = subst (λ (x : Space). is_space t x ≡ false) (space_is s p.space here) out

-- ---- order

-- all but the fate
pub record IsSame (p q : SentPacket) : Type 0 where
  pub place : q.place ≡ p.place
  pub time : q.time ≡ p.time
  pub space : q.space ≡ p.space
  pub number : q.number ≡ p.number
  pub size : q.size ≡ p.size

pub same_if : (b : Bool) (g : Fate) (p : SentPacket) → IsSame p (if b then with_fate g p else p)
same_if true g p = record { place = refl; time = refl; space = refl; number = refl; size = refl }
same_if false g p = record { place = refl; time = refl; space = refl; number = refl; size = refl }

before_same : (p q p' q' : SentPacket) → IsSame p p' → IsSame q q' → IsBefore p q → IsBefore p' q'
before_same p q p' q' same_p same_q before =
    let earlier = before.time in
    let sooner = before.place in
    let place_p = same_p.place in
    let place_q = same_q.place in
    let time_p = same_p.time in
    let time_q = same_q.time in
    let number_p = same_p.number in
    let number_q = same_q.number in
    record {
      place = omega (arith, sooner, place_p, place_q);
      time = omega (arith, earlier, time_p, time_q);
      number = λ here.
          let there : is_space p.space q.space ≡ true =
          ap (λ (x : Space). is_space x q.space) (sym same_p.space) ∙ (ap (λ (x : Space). is_space p'.space x) (sym same_q.space) ∙ here) in
          let lower = before.number there in
          omega (arith, lower, number_p, number_q);
    }

pub ordered_same : (f : SentPacket → SentPacket) → ((p : SentPacket) → IsSame p (f p)) → (ps : List SentPacket) → AreOrdered ps → AreOrdered (map f ps)
ordered_same f each [] ordered = tt
ordered_same f each (q ∷ ps) ordered = (
  each_map (λ p. IsBefore p q) (λ p. IsBefore p (f q)) f (λ p before. before_same p q (f p) (f q) (each p) (each q) before) ps ordered.0,
  ordered_same f each ps ordered.1,
)

pub ordered_drop : (n : ℕ) (ps : List SentPacket) → AreOrdered ps → AreOrdered (drop n ps)
ordered_drop zero ps ordered = ordered
ordered_drop (suc n) [] ordered = tt
ordered_drop (suc n) (p ∷ ps) ordered = ordered_drop n ps ordered.1

-- sizes stay in range
pub sizes_same : (most : ℕ) (f : SentPacket → SentPacket) → ((p : SentPacket) → IsSame p (f p)) → (ps : List SentPacket)
    → AllByRecursion (λ (p : SentPacket). p.size ≤ most) ps → AllByRecursion (λ (p : SentPacket). p.size ≤ most) (map f ps)
sizes_same most f each ps small =
    each_map (λ (p : SentPacket). p.size ≤ most) (λ (p : SentPacket). p.size ≤ most) f (λ p le. let same = (each p).size in omega (arith, le, same)) ps small

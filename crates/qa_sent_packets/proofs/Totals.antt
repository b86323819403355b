-- What the parts that are kept for the spaces answer of all packets.
use Rattle.std.proofs.Common.{◌≡◌, ◌∙◌, ℕ, zero, suc, ◌+◌, ◌*◌, ◌≤◌, ◌<◌, Bool, true, false, cond, ◌&&◌, ◌||◌, List, [], ◌∷◌, length, get_or, take, drop, count_by, sum_by, refl, sym, ap, arith, inl, inr, Some, None}
use Rattle.std.specs.Prelude.{◌==◌, if◌then◌else◌, find, is_none, nat_lt, not}
use Rattle.std.specs.List.{AllByRecursion, list_any}
use Rattle.std.proofs.lemmas.Bool.{both_ways}
use Rattle.std.proofs.lemmas.Bool.Decides.{nat_tests}
use Rattle.std.proofs.lemmas.List.Sums.{sum_by-cons}
use Rattle.qa_base.specs.declared.space.Space.{Space}
use Rattle.qa_base.specs.declared.space.Space.TheVariants.{Initial, Handshake, App}
use Rattle.qa_base.specs.values.Events.{is_space}
use Rattle.qa_base.specs.values.Limits.{max_packet_size}
use Rattle.qa_sent_packets.specs.Fates.{flight_bytes, flight_bytes_in, is_awaiting, is_flying, is_open, is_unacknowledged, is_waiting}
use Rattle.qa_sent_packets.specs.declared.fate.Fate.{Fate}
use Rattle.qa_sent_packets.specs.declared.fate.Fate.TheVariants.{Open}
use Rattle.qa_sent_packets.specs.Held.{FirstFlies, IsSound, NoneFlies, unacknowledged_in}
use Rattle.qa_base.specs.declared.per_space.PerSpace.{PerSpace}
use Rattle.qa_sent_packets.specs.declared.space_packets.SpacePackets.{SpacePackets}
use Rattle.qa_sent_packets.specs.declared.packet.SentPacket.{SentPacket}
use Rattle.qa_sent_packets.specs.declared.packets.Losses.{Losses}

-- ---- bytes in flight

of_spaces : (s : Space) (n : ℕ) → n ≡ ((if is_space Initial s then n else 0) + (if is_space Handshake s then n else 0)) + (if is_space App s then n else 0)
of_spaces Initial n = omega arith
of_spaces Handshake n = omega arith
of_spaces App n = omega arith

pub bytes_by_space : (ps : List SentPacket) → sum_by flight_bytes ps ≡ (sum_by (flight_bytes_in Initial) ps + sum_by (flight_bytes_in Handshake) ps) + sum_by (flight_bytes_in App) ps
bytes_by_space [] = refl
bytes_by_space (p ∷ ps) =
    let all : sum_by flight_bytes (p ∷ ps) ≡ flight_bytes p + sum_by flight_bytes ps = sum_by-cons flight_bytes p ps in
    let i : sum_by (flight_bytes_in Initial) (p ∷ ps) ≡ flight_bytes_in Initial p + sum_by (flight_bytes_in Initial) ps = sum_by-cons (flight_bytes_in Initial) p ps in
    let h : sum_by (flight_bytes_in Handshake) (p ∷ ps) ≡ flight_bytes_in Handshake p + sum_by (flight_bytes_in Handshake) ps = sum_by-cons (flight_bytes_in Handshake) p ps in
    let a : sum_by (flight_bytes_in App) (p ∷ ps) ≡ flight_bytes_in App p + sum_by (flight_bytes_in App) ps = sum_by-cons (flight_bytes_in App) p ps in
    let here : flight_bytes p ≡ (flight_bytes_in Initial p + flight_bytes_in Handshake p) + flight_bytes_in App p = of_spaces p.space (flight_bytes p) in
    let rest = bytes_by_space ps in
    omega (arith, all, i, h, a, here, rest)

bytes_if : (b : Bool) (n m : ℕ) → n ≤ m → (if b then n else 0) ≤ m
bytes_if true n m small = small
bytes_if false n m small = omega arith

bytes_bounded : (ps : List SentPacket) → AllByRecursion (λ (p : SentPacket). p.size ≤ max_packet_size) ps → sum_by flight_bytes ps ≤ length ps * max_packet_size
bytes_bounded [] small = omega arith
bytes_bounded (p ∷ ps) small =
    let all : sum_by flight_bytes (p ∷ ps) ≡ flight_bytes p + sum_by flight_bytes ps = sum_by-cons flight_bytes p ps in
    let here : flight_bytes p ≤ max_packet_size = bytes_if (p.in_flight && is_open p.fate) p.size max_packet_size small.0 in
    let rest = bytes_bounded ps small.1 in
    omega (arith, all, here, rest)

-- what the parts of the spaces add up to
pub record IsTotal (d : ℕ) (ps : List SentPacket) (by_space : PerSpace SpacePackets) : Type 0 where
  pub sum : (by_space.initial.in_flight + by_space.handshake.in_flight) + by_space.app.in_flight ≡ sum_by flight_bytes ps
  pub bound : sum_by flight_bytes ps ≤ 4294967295 * max_packet_size

pub total : {strays : PerSpace (List SentPacket)} (d : ℕ) (ps : List SentPacket) (losses : Losses) (by_space : PerSpace SpacePackets) → IsSound d ps losses by_space strays → IsTotal d ps by_space
total d ps losses by_space sound =
    let spaces = bytes_by_space ps in
    let i = sound.initial.indexed.in_flight in
    let h = sound.handshake.indexed.in_flight in
    let a = sound.app.indexed.in_flight in
    let most = bytes_bounded ps sound.sizes in
    let few = sound.few in
    record {
      sum = omega (arith, spaces, i, h, a);
      bound = omega (arith, most, few);
    }

-- ---- whether there is one

positive_if : (b rest : Bool) (n : ℕ) → nat_lt 0 n ≡ rest → nat_lt 0 (cond b 1 0 + n) ≡ (b || rest)
positive_if true rest n is = grind (arith, nat_tests)
positive_if false rest n is = let same : 0 + n ≡ n = omega arith in ap (nat_lt 0) same ∙ is

pub any_counted : (test : SentPacket → Bool) (ps : List SentPacket) → nat_lt 0 (count_by test ps) ≡ list_any test ps
any_counted test [] = refl
any_counted test (p ∷ ps) =
    let weight : SentPacket → ℕ = λ q. cond (test q) 1 0 in
    let sum : sum_by weight (p ∷ ps) ≡ weight p + sum_by weight ps = sum_by-cons weight p ps in
    ap (nat_lt 0) sum ∙ positive_if (test p) (list_any test ps) (sum_by weight ps) (any_counted test ps)

-- ---- the first in flight

find_passed : (s : Space) (n : ℕ) (ps : List SentPacket) → NoneFlies s (take n ps) → find (is_flying s) ps ≡ find (is_flying s) (drop n ps)
find_passed s zero ps none = refl
find_passed s (suc n) [] none = refl
find_passed s (suc n) (p ∷ ps) none = ap (λ b. cond b (Some p) (find (is_flying s) ps)) none.0 ∙ find_passed s n ps none.1

find_none : (s : Space) (ps : List SentPacket) → NoneFlies s ps → find (is_flying s) ps ≡ None
find_none s [] none = refl
find_none s (p ∷ ps) none = ap (λ b. cond b (Some p) (find (is_flying s) ps)) none.0 ∙ find_none s ps none.1

none_there : (s : Space) (n : ℕ) (ps : List SentPacket) → length ps ≤ n → find (is_flying s) (drop n ps) ≡ None
none_there s zero [] past = refl
none_there s zero (p ∷ ps) past = absurd (omega arith)
none_there s (suc n) [] past = refl
none_there s (suc n) (p ∷ ps) past = none_there s n ps (omega arith)

pub find_nowhere : (s : Space) (n : ℕ) (ps : List SentPacket) → NoneFlies s (take n ps) → length ps ≤ n → find (is_flying s) ps ≡ None
find_nowhere s n ps none past = find_passed s n ps none ∙ none_there s n ps past

there : (s : Space) (n : ℕ) (ps : List SentPacket) (p : SentPacket) → n < length ps → p ≡ get_or ps n p → is_flying s p ≡ true → find (is_flying s) (drop n ps) ≡ Some p
there s n [] p within is flies = absurd (omega arith)
there s zero (x ∷ ps) p within is flies = ap (λ b. cond b (Some x) (find (is_flying s) ps)) (ap (is_flying s) (sym is) ∙ flies) ∙ ap Some (sym is)
there s (suc n) (x ∷ ps) p within is flies = there s n ps p (omega arith) is flies

pub find_there : (s : Space) (n : ℕ) (ps : List SentPacket) (p : SentPacket) → NoneFlies s (take n ps) → n < length ps → p ≡ get_or ps n p → is_flying s p ≡ true → find (is_flying s) ps ≡ Some p
find_there s n ps p none within is flies = find_passed s n ps none ∙ there s n ps p within is flies

not_there : (s : Space) (n : ℕ) (ps : List SentPacket) (p : SentPacket) → FirstFlies s (drop n ps) → n < length ps → p ≡ get_or ps n p → is_flying s p ≡ false → find (is_flying s) (drop n ps) ≡ None
not_there s n [] p first within is out = absurd (omega arith)
not_there s zero (x ∷ ps) p first within is out = elim first [
  | inl flies ↦ (let not' : is_flying s x ≡ false = ap (is_flying s) (sym is) ∙ out in cc)
  | inr none ↦ find_none s (x ∷ ps) none
]
not_there s (suc n) (x ∷ ps) p first within is out = not_there s n ps p first (omega arith) is out

pub find_not : (s : Space) (n : ℕ) (ps : List SentPacket) (p : SentPacket) → NoneFlies s (take n ps) → FirstFlies s (drop n ps) → n < length ps → p ≡ get_or ps n p → is_flying s p ≡ false → find (is_flying s) ps ≡ None
find_not s n ps p none first within is out = find_passed s n ps none ∙ not_there s n ps p first within is out

-- ---- how much is kept

entry_of : (s : Space) (b : Bool) (e : ℕ × ℕ) (i h a : List (ℕ × ℕ)) (n : ℕ) → (length i + length h) + length a ≤ n
    → (length (if is_space Initial s && b then e ∷ i else i) + length (if is_space Handshake s && b then e ∷ h else h)) + length (if is_space App s && b then e ∷ a else a) ≤ suc n
entry_of Initial true e i h a n few = omega (arith, few)
entry_of Handshake true e i h a n few = omega (arith, few)
entry_of App true e i h a n few = omega (arith, few)
entry_of Initial false e i h a n few = omega (arith, few)
entry_of Handshake false e i h a n few = omega (arith, few)
entry_of App false e i h a n few = omega (arith, few)

-- a packet has one entry at most
entries_fewer : (d : ℕ) (ps : List SentPacket) → (length (unacknowledged_in Initial d ps) + length (unacknowledged_in Handshake d ps)) + length (unacknowledged_in App d ps) ≤ length ps
entries_fewer d [] = omega arith
entries_fewer d (p ∷ ps) =
    entry_of p.space (is_unacknowledged p.fate) (p.number, d) (unacknowledged_in Initial (suc d) ps) (unacknowledged_in Handshake (suc d) ps) (unacknowledged_in App (suc d) ps) (length ps) (entries_fewer (suc d) ps)

-- what the lengths of the maps add up to
pub entries_kept : {strays : PerSpace (List SentPacket)} (d : ℕ) (ps : List SentPacket) (losses : Losses) (by_space : PerSpace SpacePackets) → IsSound d ps losses by_space strays
    → (length by_space.initial.unacknowledged.entries + length by_space.handshake.unacknowledged.entries) + length by_space.app.unacknowledged.entries ≤ length ps
entries_kept d ps losses by_space sound =
    let fewer = entries_fewer d ps in
    let i = ap length sound.initial.indexed.entries in
    let h = ap length sound.handshake.indexed.entries in
    let a = ap length sound.app.indexed.entries in
    omega (arith, fewer, i, h, a)

-- ---- a space in which none waits

opened_waits : (f : Fate) → is_open f ≡ true → is_unacknowledged f ≡ true
opened_waits Open is = refl
opened_waits _ is = cc

shut_if : (here asks opened waits : Bool) → (opened ≡ true → waits ≡ true) → (here && waits) ≡ false → (here && (asks && opened)) ≡ false
shut_if false asks opened waits goes none = refl
shut_if true false opened waits goes none = refl
shut_if true true false waits goes none = refl
shut_if true true true waits goes none = absurd (both_ways waits none (goes refl))

none_here : (waits : Bool) (e : ℕ × ℕ) (es : List (ℕ × ℕ)) → (if waits then e ∷ es else es) ≡ [] → (waits ≡ false) × (es ≡ [])
none_here true e es none = cc
none_here false e es none = (refl, none)

-- none is open there: none is waited for, and none is in flight
pub none_waits : (s : Space) (d : ℕ) (ps : List SentPacket) → unacknowledged_in s d ps ≡ [] → (list_any (is_awaiting s) ps ≡ false) × (find (is_flying s) ps ≡ None)
none_waits s d [] none = (refl, refl)
none_waits s d (p ∷ ps) none =
    let here = none_here (is_waiting s p) (p.number, d) (unacknowledged_in s (suc d) ps) none in
    let rest = none_waits s (suc d) ps here.1 in
    let shut : (asks : Bool) → (is_space s p.space && (asks && is_open p.fate)) ≡ false = λ asks. shut_if (is_space s p.space) asks (is_open p.fate) (is_unacknowledged p.fate) (opened_waits p.fate) here.0 in (
      ap (λ b. b || list_any (is_awaiting s) ps) (shut p.eliciting) ∙ rest.0,
      ap (λ b. if b then Some p else find (is_flying s) ps) (shut p.in_flight) ∙ rest.1,
    )

pub idle_is : (s : Space) (ps : List SentPacket) → list_any (is_awaiting s) ps ≡ false → find (is_flying s) ps ≡ None → true ≡ (not (list_any (is_awaiting s) ps) && is_none (find (is_flying s) ps))
idle_is s ps calm none = rw (calm, none) refl

pub nothing : (es : List (ℕ × ℕ)) → (length es == 0) ≡ true → es ≡ []
nothing [] is = refl
nothing (e ∷ es) is =
    let never : (suc (length es) == 0) ≡ false = grind (arith, nat_tests) in
    absurd (both_ways (length (e ∷ es) == 0) never is)

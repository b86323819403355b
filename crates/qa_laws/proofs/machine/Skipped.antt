-- Where a history skips no number up to an acknowledged one, what stood before its last event skips none.
use Rattle.std.proofs.Common.{◌≡◌, ◌≤◌, ◌<◌, ℕ, List, [], ◌∷◌, Bool, true, false, ◌&&◌, Option, Some, None, refl, arith, max, inl, inr, length}
use Rattle.std.proofs.lemmas.Bool.{and_from, and_parts, both_ways, cases_lt, eqb-true, le-leb, not-false, or_cases, or_left, or_right}
use Rattle.std.specs.List.{list_all, list_any}
use Rattle.std.specs.Prelude.{nat_eq, nat_le, if◌then◌else◌, unwrap_or}
use Rattle.qa_base.specs.declared.event.Event.{Event}
use Rattle.qa_base.specs.declared.event.Event.TheVariants.{Sent, Ack}
use Rattle.qa_base.specs.declared.space.Space.{Space}
use Rattle.qa_base.specs.machine.Breaches.{has_at_or_above, numbers}
use Rattle.qa_base.specs.machine.Kept.{numbers_of}
use Rattle.qa_base.specs.machine.Numbers.{has_all, has_next, has_range, is_in}
use Rattle.qa_base.specs.machine.Packets.{Packet, packets_of, packet_at, is_of, greatest, greatest_in, largest_acknowledged}
use Rattle.qa_base.specs.machine.Violations.{IsToleratedRun}
use Rattle.qa_base.specs.values.Events.{is_named, is_space}
use Rattle.qa_base.specs.values.Settings.{Settings}
use Rattle.qa_base.proofs.history.Settled.{largest_after, raised}
use Rattle.qa_base.proofs.history.ToleratedRuns.{is_space_is}
use Rattle.qa_base.proofs.machine.Ranges.{has_all_names}
use Rattle.qa_base.proofs.machine.RunLaws.{form_holds}
use Rattle.qa_laws.specs.machine.Skipped.{SkipsNone}

-- ---- what is acknowledged is not above all that was sent

at_or_above : (ps : List Packet) (m n : ℕ) → n ≤ m → is_in (numbers ps) m ≡ true → list_any (λ p. nat_le n p.number) ps ≡ true
at_or_above [] m n le is = cc
at_or_above (p ∷ ps) m n le is = elim (or_cases (nat_eq p.number m) (is_in (numbers ps) m) is) [
  | inl here ↦ (let same = eqb-true p.number m here in or_left (nat_le n p.number) (list_any (λ q. nat_le n q.number) ps) (le-leb n p.number (omega (arith, le, same))))
  | inr later ↦ or_right (nat_le n p.number) (list_any (λ q. nat_le n q.number) ps) (at_or_above ps m n le later)
]

-- a range whose numbers were sent
of_range : (ps : List Packet) (range : ℕ × ℕ) (n : ℕ) → n ≤ range.1 → has_range (numbers ps) range ≡ true → list_any (λ p. nat_le n p.number) ps ≡ true
of_range ps range n le has = elim (cases_lt range.1 range.0) [
  | inl less ↦ at_or_above ps range.0 n (omega (arith, le, less)) (and_parts (is_in (numbers ps) range.0) (list_all (has_next (numbers ps) range.0 range.1) (numbers ps)) has).0
  | inr most ↦ (let named : is_named (range ∷ []) range.1 ≡ true = or_left (nat_le range.0 range.1 && nat_le range.1 range.1) false (and_from (nat_le range.0 range.1) (nat_le range.1 range.1) (le-leb range.0 range.1 most) (le-leb range.1 range.1 (omega arith))) in
      at_or_above ps range.1 n le (has_all_names (numbers ps) (range ∷ []) (and_from (has_range (numbers ps) range) true has refl) range.1 named))
]

of_ranges : (ps : List Packet) (ranges : List (ℕ × ℕ)) (n : ℕ) → 0 < n → n ≤ greatest ranges → has_all (numbers ps) ranges ≡ true → list_any (λ p. nat_le n p.number) ps ≡ true
of_ranges ps [] n some le all = absurd (omega (arith, some, le))
of_ranges ps (range ∷ ranges) n some le all =
    let parts = and_parts (has_range (numbers ps) range) (has_all (numbers ps) ranges) all in
    elim (cases_lt range.1 n) [
      | inl less ↦ of_ranges ps ranges n some (omega (arith, le, less)) parts.1
      | inr most ↦ of_range ps range n most parts.0
    ]

-- a number up to this one is at most that of some packet of the space
abbrev IsReached : List Event → Space → Option ℕ → Type 0
IsReached h s None = Unit {0}
IsReached h s (Some largest) = (n : ℕ) → 0 < n → n ≤ largest → has_at_or_above s n h ≡ true

any_more : (test : Packet → Bool) (p : Packet) (ps : List Packet) (b : Bool) → list_any test ps ≡ true → list_any test (if b then p ∷ ps else ps) ≡ true
any_more test p ps true some = or_right (test p) (list_any test ps) some
any_more test p ps false some = some

above_stays : (e : Event) (h : List Event) (s : Space) (n : ℕ) → has_at_or_above s n h ≡ true → has_at_or_above s n (e ∷ h) ≡ true
above_stays (Sent packet) h s n some = let p = packet_at (length h) packet in any_more (λ q. nat_le n q.number) p (packets_of h s) (is_of s p) some
above_stays _ h s n some = some

reached_stays : (e : Event) (h : List Event) (s : Space) (most : Option ℕ) → IsReached h s most → IsReached (e ∷ h) s most
reached_stays e h s None reached = tt
reached_stays e h s (Some largest) reached = λ n some le. above_stays e h s n (reached n some le)

reached_more : (h : List Event) (s : Space) (k : ℕ) (most : Option ℕ) → ((n : ℕ) → 0 < n → n ≤ k → has_at_or_above s n h ≡ true) → IsReached h s most → IsReached h s (Some (max k (unwrap_or most k)))
reached_more h s k None own reached = λ n some le. own n some (omega (arith, le))
reached_more h s k (Some m) own reached = λ n some le. elim (cases_lt k n) [
  | inl less ↦ reached n some (omega (arith, le, less))
  | inr most ↦ own n some most
]

reached_if : (h : List Event) (s t : Space) (k : ℕ) (most : Option ℕ) (b : Bool) → is_space s t ≡ b → ((n : ℕ) → 0 < n → n ≤ k → has_at_or_above t n h ≡ true) → IsReached h s most
    → IsReached h s (raised (if b then k ∷ [] else []) most)
reached_if h s t k most true is own reached = reached_more h s k most (λ n some le. rw (is_space_is s t is) (own n some le)) reached
reached_if h s t k most false is own reached = reached

reached_by : (c : Settings) (e : Event) (h : List Event) (s : Space) → IsToleratedRun c (e ∷ h) → IsReached h s (largest_acknowledged h s) → IsReached (e ∷ h) s (raised (greatest_in s e) (largest_acknowledged h s))
reached_by c (Ack ack) h s run reached =
    let all = not-false (has_all (numbers (packets_of h ack.space)) ack.ranges) (form_holds c h (Ack ack) run.1).ack_unsent in
    reached_if h s ack.space (greatest ack.ranges) (largest_acknowledged h s) (is_space s ack.space) refl
    (λ n some le. of_ranges (packets_of h ack.space) ack.ranges n some le all) reached
reached_by c e h s run reached = reached_stays e h s (largest_acknowledged h s) reached

largest_reached : (c : Settings) (h : List Event) (s : Space) → IsToleratedRun c h → IsReached h s (largest_acknowledged h s)
largest_reached c [] s run = tt
largest_reached c (e ∷ h) s run = rw (largest_after e h s) (reached_by c e h s run (largest_reached c h s run.0))

reached_at : (h : List Event) (s : Space) (most : Option ℕ) (largest n : ℕ) → IsReached h s most → most ≡ Some largest → 0 < n → n ≤ largest → has_at_or_above s n h ≡ true
reached_at h s None largest n reached is some le = cc
reached_at h s (Some m) largest n reached is some le = let same : m ≡ largest = cc in reached n some (omega (arith, le, same))

-- ---- an event less

in_more : (p : Packet) (ps : List Packet) (b : Bool) (n : ℕ) → is_in (numbers ps) n ≡ true → is_in (numbers (if b then p ∷ ps else ps)) n ≡ true
in_more p ps true n is = or_right (nat_eq p.number n) (is_in (numbers ps) n) is
in_more p ps false n is = is

in_stays : (e : Event) (h : List Event) (s : Space) (n : ℕ) → is_in (numbers_of h s) n ≡ true → is_in (numbers_of (e ∷ h) s) n ≡ true
in_stays (Sent packet) h s n is = let p = packet_at (length h) packet in in_more p (packets_of h s) (is_of s p) n is
in_stays _ h s n is = is

in_less : (p : Packet) (ps : List Packet) (b : Bool) (n : ℕ) → (b ≡ true → p.number ≡ n → ⊥) → is_in (numbers (if b then p ∷ ps else ps)) n ≡ true → is_in (numbers ps) n ≡ true
in_less p ps true n other is = elim (or_cases (nat_eq p.number n) (is_in (numbers ps) n) is) [
  | inl here ↦ absurd (other refl (eqb-true p.number n here))
  | inr later ↦ later
]
in_less p ps false n other is = is

-- a number up to one that is there already is not the last event's
in_before : (c : Settings) (e : Event) (h : List Event) (s : Space) (n : ℕ) → IsToleratedRun c (e ∷ h) → has_at_or_above s n h ≡ true → is_in (numbers_of (e ∷ h) s) n ≡ true → is_in (numbers_of h s) n ≡ true
in_before c (Sent packet) h s n run some is =
    let p = packet_at (length h) packet in
    let higher : has_at_or_above packet.space packet.number h ≡ false = (form_holds c h (Sent packet) run.1).number_not_higher in
    in_less p (packets_of h s) (is_of s p) n (λ of_s same. both_ways (has_at_or_above s n h) (rw (is_space_is s packet.space of_s, ← same) higher) some) is
in_before c _ h s n run some is = is

-- the largest acknowledged number does not fall
record Raised (n : ℕ) (most : Option ℕ) : Type 0 where
  largest : ℕ
  is : most ≡ Some largest
  up_to : n ≤ largest

raised_at : (here : List ℕ) (most : Option ℕ) (largest n : ℕ) → most ≡ Some largest → n ≤ largest → Raised n (raised here most)
raised_at [] most largest n is le = record { largest = largest; is = is; up_to = le }
raised_at (k ∷ ks) None largest n is le = cc
raised_at (k ∷ ks) (Some m) largest n is le = let same : m ≡ largest = cc in record { largest = max k m; is = refl; up_to = omega (arith, same, le) }

largest_stays : (e : Event) (h : List Event) (s : Space) (largest n : ℕ) → largest_acknowledged h s ≡ Some largest → n ≤ largest → Raised n (largest_acknowledged (e ∷ h) s)
largest_stays e h s largest n is le = rw (largest_after e h s) (raised_at (greatest_in s e) (largest_acknowledged h s) largest n is le)

pub skips_none_before : (c : Settings) (e : Event) (h : List Event) → IsToleratedRun c (e ∷ h) → SkipsNone (e ∷ h) → SkipsNone h
skips_none_before c e h run skips = λ s sent largest n is_sent is above le.
    let more = largest_stays e h s largest n is le in
    let some = reached_at h s (largest_acknowledged h s) largest n (largest_reached c h s run.0) is (omega (arith, above)) le in
    in_before c e h s n run some (skips s sent more.largest n (in_stays e h s sent is_sent) more.is above more.up_to)

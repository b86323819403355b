-- What is settled stays so, and what is owed is declared lost next: a packet that is not open never is again.
use Rattle.std.proofs.Common.{◌≡◌, ◌∙◌, ◌<◌, ℕ, max, List, [], ◌∷◌, ◌++◌, length, Bool, true, false, ◌&&◌, not, Option, Some, None, unwrap_or, refl, sym, arith, Contains, flat_map, inl, inr, ◌⊎◌, ◌||◌}
use Rattle.std.proofs.lemmas.Bool.{and_parts, and_from, or_left, or_right, ltb-true, lt-ltb, not-false, not-true, and_cases, both_ways, and_left, and_right, not_from_true, true_from_ne_false, false_from_ne_true}
use Rattle.std.specs.List.{list_any, list_all}
use Rattle.std.specs.Prelude.{nat_lt, if◌then◌else◌}
use Rattle.qa_base.specs.declared.event.Event.{Event}
use Rattle.qa_base.specs.declared.event.Event.TheVariants.{Ack, Lost}
use Rattle.qa_base.specs.declared.space.Space.{Space}
use Rattle.qa_base.specs.machine.Breaches.{numbers}
use Rattle.qa_base.specs.values.Events.{is_space, is_named, acknowledges, declares_lost, discards}
use Rattle.qa_base.specs.machine.Estimates.{sampled}
use Rattle.qa_base.specs.machine.Detection.{all_at, is_at, is_found, is_left, is_unsettled}
use Rattle.qa_base.specs.machine.Loss.{owed, is_owed, is_free, nameable, is_nameable, is_open, detection}
use Rattle.qa_base.specs.machine.Numbers.{has_all, names_between}
use Rattle.qa_base.specs.machine.Packets.{Packet, packets, packets_of, is_of, is_some_packet, is_acknowledged, is_declared_lost, is_discarded, greatest, greatest_in, greatest_of, largest_acknowledged, is_below_largest}
use Rattle.qa_base.specs.machine.Violations.{IsToleratedRun}
use Rattle.qa_base.specs.values.Settings.{Settings}
use Rattle.qa_base.proofs.history.ToleratedRuns.{is_space_same, is_space_is}
use Rattle.qa_base.proofs.machine.WindowBound.{placed}
use Rattle.qa_base.proofs.history.Pairs.{at_one, part_has, part_is, some_one, first_or_rest}
use Rattle.qa_base.proofs.machine.RunLaws.{form_holds}

-- ---- covered, lost, gone

pub covered_stays : (e : Event) (h : List Event) (p : Packet) → is_acknowledged h p ≡ true → is_acknowledged (e ∷ h) p ≡ true
covered_stays e h p is = or_right (acknowledges p.space p.number e && nat_lt p.place (length h)) (is_acknowledged h p) is

pub lost_stays : (e : Event) (h : List Event) (p : Packet) → is_declared_lost h p ≡ true → is_declared_lost (e ∷ h) p ≡ true
lost_stays e h p is = or_right (declares_lost p.space p.number e && nat_lt p.place (length h)) (is_declared_lost h p) is

pub gone_stays : (e : Event) (h : List Event) (s : Space) → is_discarded h s ≡ true → is_discarded (e ∷ h) s ≡ true
gone_stays e h s is = or_right (discards s e) (is_discarded h s) is

-- ---- the largest acknowledged number

-- the greatest of a number, where there is one, and a greatest so far
abbrev pub raised : List ℕ → Option ℕ → Option ℕ
raised [] most = most
raised (n ∷ ns) most = Some (max n (unwrap_or most n))

largest_if : (here : Bool) (n : ℕ) (rest : List ℕ) → greatest_of ((if here then n ∷ [] else []) ++ rest) ≡ raised (if here then n ∷ [] else []) (greatest_of rest)
largest_if true n rest = refl
largest_if false n rest = refl

-- an acknowledgment of the space raises it
pub largest_after : (e : Event) (h : List Event) (s : Space) → largest_acknowledged (e ∷ h) s ≡ raised (greatest_in s e) (largest_acknowledged h s)
largest_after (Ack ack) h s = largest_if (is_space s ack.space) (greatest ack.ranges) (flat_map (greatest_in s) h)
largest_after _ h s = refl

below_raised : (here : List ℕ) (most : Option ℕ) (n : ℕ) → is_below_largest n most ≡ true → is_below_largest n (raised here most) ≡ true
below_raised [] most n is = is
below_raised (k ∷ ks) None n is = cc
below_raised (k ∷ ks) (Some m) n is = let below = ltb-true n m is in lt-ltb n (max k m) (omega (arith, below))

-- it never falls: what is below it stays below it
pub below_largest_stays : (e : Event) (h : List Event) (s : Space) (n : ℕ)
    → is_below_largest n (largest_acknowledged h s) ≡ true → is_below_largest n (largest_acknowledged (e ∷ h) s) ≡ true
below_largest_stays e h s n is = rw (largest_after e h s) (below_raised (greatest_in s e) (largest_acknowledged h s) n is)

-- ---- what is owed

found_has : (c : Settings) (h : List Event) (p : Packet) (d : Option (Space × ℕ)) → Contains (packets h) p → is_at (is_found c (sampled c h) h) p d ≡ true → Contains (all_at (is_found c (sampled c h) h) h d) p
found_has c h p None has is = cc
found_has c h p (Some (s, now)) has is =
    let both = and_parts (is_of s p) (is_found c (sampled c h) h now s p) is in
    part_has (is_found c (sampled c h) h now s) (packets_of h s) p (part_has (is_of s) (packets h) p has both.0) both.1

found_is : (c : Settings) (h : List Event) (p : Packet) (d : Option (Space × ℕ)) → Contains (all_at (is_found c (sampled c h) h) h d) p → Contains (packets h) p × (is_at (is_found c (sampled c h) h) p d ≡ true)
found_is c h p None (k, within, is) = absurd (omega arith)
found_is c h p (Some (s, now)) has =
    let found = part_is (is_found c (sampled c h) h now s) (packets_of h s) p has in
    let of_space = part_is (is_of s) (packets h) p found.0 in
    (of_space.0, and_from (is_of s p) (is_found c (sampled c h) h now s p) of_space.1 found.1)

-- the packets owed are those of which it is so
pub owed_has : (c : Settings) (h : List Event) (p : Packet) → Contains (packets h) p → is_owed c h p ≡ true → Contains (owed c h) p
owed_has c h p has is = found_has c h p (detection c h) has is

pub owed_is : (c : Settings) (h : List Event) (p : Packet) → Contains (owed c h) p → Contains (packets h) p × (is_owed c h p ≡ true)
owed_is c h p has = found_is c h p (detection c h) has

of_either : (a b c : Bool) → ((a && b) || (a && c)) ≡ true → a ≡ true
of_either true b c is = refl
of_either false b c is = cc

nameable_of_one : (c : Settings) (h : List Event) (p q : Packet) (d : Option (Space × ℕ))
    → (is_at (is_found c (sampled c h) h) p d || is_at (is_left c (sampled c h) h) p d) ≡ true
    → (is_at (is_found c (sampled c h) h) q d || is_at (is_left c (sampled c h) h) q d) ≡ true → p.space ≡ q.space
nameable_of_one c h p q None is_p is_q = cc
nameable_of_one c h p q (Some (s, now)) is_p is_q =
    let of_p = is_space_is s p.space (of_either (is_of s p) (is_found c (sampled c h) h now s p) (is_left c (sampled c h) h now s p) is_p) in
    let of_q = is_space_is s q.space (of_either (is_of s q) (is_found c (sampled c h) h now s q) (is_left c (sampled c h) h now s q) is_q) in
    sym of_p ∙ of_q

-- what may be named is all of one space
pub named_of_one : (c : Settings) (h : List Event) (p q : Packet) → is_nameable c h p ≡ true → is_nameable c h q ≡ true → p.space ≡ q.space
named_of_one c h p q is_p is_q = nameable_of_one c h p q (detection c h) is_p is_q

-- the packets that may be named are those of which it is so
pub nameable_is : (c : Settings) (h : List Event) (p : Packet) → Contains (nameable c h) p → Contains (packets h) p × (is_nameable c h p ≡ true)
nameable_is c h p has = part_is (is_nameable c h) (packets h) p has

pub has_some : (ps : List Packet) (p : Packet) → Contains ps p → is_some_packet ps ≡ true
has_some [] p (k, within, is) = absurd (omega arith)
has_some (q ∷ ps) p has = refl

named_at : (ranges : List (ℕ × ℕ)) (ps : List Packet) (p : Packet) → list_all (is_named ranges) (numbers ps) ≡ true → Contains ps p → is_named ranges p.number ≡ true
named_at ranges [] p all (k, within, is) = absurd (omega arith)
named_at ranges (q ∷ ps) p all has =
    let both = and_parts (is_named ranges q.number) (list_all (is_named ranges) (numbers ps)) all in
    elim (first_or_rest q p ps has) [
      | inl here ↦ rw (← here) both.0
      | inr behind ↦ named_at ranges ps p both.1 behind
    ]

not_while_owed : (c : Settings) (h : List Event) (p : Packet) (G : Type 0) → Contains (packets h) p → is_owed c h p ≡ true → is_some_packet (owed c h) ≡ false → G
not_while_owed c h p G has is none = absurd (both_ways (is_some_packet (owed c h)) none (has_some (owed c h) p (owed_has c h p has is)))

-- the space of a Lost line in a tolerated run
pub nameable_space : (c : Settings) (h : List Event) (time : ℕ) (space : Space) (ranges : List (ℕ × ℕ)) → IsToleratedRun c (Lost time space ranges ∷ h)
    → (p : Packet) → is_nameable c h p ≡ true → p.space ≡ space
nameable_space c h time space ranges run p is =
    let holds = form_holds c h (Lost time space ranges) run.1 in
    let one = some_one (is_of space) (nameable c h) (not-false (list_any (is_of space) (nameable c h)) holds.loss_not_owed) in
    named_of_one c h p one.0 is (nameable_is c h one.0 one.1).1 ∙ sym (is_space_is space one.0.space one.2)

pub owed_space : (c : Settings) (h : List Event) (time : ℕ) (space : Space) (ranges : List (ℕ × ℕ)) → IsToleratedRun c (Lost time space ranges ∷ h)
    → (p : Packet) → is_owed c h p ≡ true → p.space ≡ space
owed_space c h time space ranges run p is = nameable_space c h time space ranges run p (or_left (is_owed c h p) (is_free c h p) is)

pub names_all : (c : Settings) (h : List Event) (time : ℕ) (space : Space) (ranges : List (ℕ × ℕ)) → IsToleratedRun c (Lost time space ranges ∷ h)
    → names_between ranges (numbers (owed c h)) (numbers (nameable c h)) ≡ true
names_all c h time space ranges run = not-false (names_between ranges (numbers (owed c h)) (numbers (nameable c h))) (form_holds c h (Lost time space ranges) run.1).loss_set

-- a Lost line of a tolerated run declares each packet lost that is owed
pub owed_is_named : (c : Settings) (h : List Event) (time : ℕ) (space : Space) (ranges : List (ℕ × ℕ)) → IsToleratedRun c (Lost time space ranges ∷ h)
    → (p : Packet) → Contains (packets h) p → is_owed c h p ≡ true → declares_lost p.space p.number (Lost time space ranges) ≡ true
owed_is_named c h time space ranges run p has is =
    let between = names_all c h time space ranges run in
    let named = named_at ranges (owed c h) p (and_parts (has_all (numbers (nameable c h)) ranges) (list_all (is_named ranges) (numbers (owed c h))) between).1 (owed_has c h p has is) in
    and_from (is_space p.space space) (is_named ranges p.number) (rw (owed_space c h time space ranges run p is) (is_space_same space)) named

-- in a tolerated run, what is owed is declared lost by the event that comes next
pub owed_then_lost : (c : Settings) (e : Event) (h : List Event) → IsToleratedRun c (e ∷ h) → (p : Packet) → Contains (packets h) p → is_owed c h p ≡ true → is_declared_lost (e ∷ h) p ≡ true
owed_then_lost c (Lost time space ranges) h run p has is =
    let below : p.place < length h = at_one (λ q. q.place < length h) (packets h) p (placed h) has in
    or_left (declares_lost p.space p.number (Lost time space ranges) && nat_lt p.place (length h)) (is_declared_lost h p)
    (and_from (declares_lost p.space p.number (Lost time space ranges)) (nat_lt p.place (length h))
    (owed_is_named c h time space ranges run p has is) (lt-ltb p.place (length h) below))
owed_then_lost c e h run p has is = not_while_owed c h p (is_declared_lost (e ∷ h) p ≡ true) has is (form_holds c h e run.1).loss_owed

-- ---- open

pub settled_parts : (h : List Event) (p : Packet) → is_unsettled h p ≡ false → (is_acknowledged h p ≡ true) ⊎ (is_declared_lost h p ≡ true)
settled_parts h p is = elim (and_cases (not (is_acknowledged h p)) (not (is_declared_lost h p)) is) [
  | inl covered ↦ inl (not-false (is_acknowledged h p) covered)
  | inr lost ↦ inr (not-false (is_declared_lost h p) lost)
]

pub covered_settles : (h : List Event) (p : Packet) → is_acknowledged h p ≡ true → is_unsettled h p ≡ false
covered_settles h p is = and_left (not (is_acknowledged h p)) (not (is_declared_lost h p)) (not_from_true (is_acknowledged h p) is)

pub lost_settles : (h : List Event) (p : Packet) → is_declared_lost h p ≡ true → is_unsettled h p ≡ false
lost_settles h p is = and_right (not (is_acknowledged h p)) (not (is_declared_lost h p)) (not_from_true (is_declared_lost h p) is)

pub settled_stays : (e : Event) (h : List Event) (p : Packet) → is_unsettled h p ≡ false → is_unsettled (e ∷ h) p ≡ false
settled_stays e h p is = elim (settled_parts h p is) [
  | inl covered ↦ covered_settles (e ∷ h) p (covered_stays e h p covered)
  | inr lost ↦ lost_settles (e ∷ h) p (lost_stays e h p lost)
]

pub unsettled_before : (e : Event) (h : List Event) (p : Packet) → is_unsettled (e ∷ h) p ≡ true → is_unsettled h p ≡ true
unsettled_before e h p is = true_from_ne_false (is_unsettled h p) (λ settled. both_ways (is_unsettled (e ∷ h) p) (settled_stays e h p settled) is)

-- what a packet is that is open
pub record Opens (c : Settings) (h : List Event) (p : Packet) : Type 0 where
  pub unsettled : is_unsettled h p ≡ true
  pub free : is_owed c h p ≡ false
  pub there : is_discarded h p.space ≡ false

pub opens_is : (c : Settings) (h : List Event) (p : Packet) → is_open c h p ≡ true → Opens c h p
opens_is c h p is =
    let parts = and_parts (is_unsettled h p && not (is_owed c h p)) (not (is_discarded h p.space)) is in
    let more = and_parts (is_unsettled h p) (not (is_owed c h p)) parts.0 in
    record { unsettled = more.0; free = not-true (is_owed c h p) more.1; there = not-true (is_discarded h p.space) parts.1 }

pub opens_from : (c : Settings) (h : List Event) (p : Packet) → Opens c h p → is_open c h p ≡ true
opens_from c h p o = rw (o.unsettled, o.free, o.there) refl

-- in a tolerated run a packet that is open was open before the last event, unless that sent it
pub open_before : (c : Settings) (e : Event) (h : List Event) → IsToleratedRun c (e ∷ h) → (p : Packet) → Contains (packets h) p → is_open c (e ∷ h) p ≡ true → is_open c h p ≡ true
open_before c e h run p has is =
    let now = opens_is c (e ∷ h) p is in
    opens_from c h p (record {
      unsettled = unsettled_before e h p now.unsettled;
      free = false_from_ne_true (is_owed c h p) (λ owed_then. both_ways (is_unsettled (e ∷ h) p) (lost_settles (e ∷ h) p (owed_then_lost c e h run p has owed_then)) now.unsettled);
      there = false_from_ne_true (is_discarded h p.space) (λ gone. both_ways (is_discarded (e ∷ h) p.space) now.there (gone_stays e h p.space gone));
    })

-- in a tolerated run a packet that is not open is not open after one more event
pub closed_stays : (c : Settings) (e : Event) (h : List Event) → IsToleratedRun c (e ∷ h) → (p : Packet) → Contains (packets h) p → is_open c h p ≡ false → is_open c (e ∷ h) p ≡ false
closed_stays c e h run p has closed = false_from_ne_true (is_open c (e ∷ h) p) (λ is. both_ways (is_open c h p) closed (open_before c e h run p has is))

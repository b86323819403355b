-- The first of the packets of a space, the latest first, has the highest number.
use Rattle.std.proofs.Common.{◌≡◌, ◌∙◌, ◌≤◌, ◌<◌, ℕ, List, [], ◌∷◌, ◌++◌, Bool, true, false, ◌&&◌, ◌||◌, not, ◌==◌, Option, Some, None, refl, sym, ap, subst, arith, inl, inr, find, filter, reverse}
use Rattle.std.proofs.lemmas.List.Elements.{filter-append}
use Rattle.std.proofs.lemmas.Bool.{and_parts, or_cases, leb-true, leb-false, lt-leb, ne_eqb}
use Rattle.std.specs.List.{AllByRecursion, list_any}
use Rattle.std.specs.Prelude.{nat_le, if◌then◌else◌}
use Rattle.qa_base.specs.declared.event.Event.{Event}
use Rattle.qa_base.specs.declared.event.Ack.{Ack as Acknowledgment}
use Rattle.qa_base.specs.declared.event.Event.TheVariants.{Ack}
use Rattle.qa_base.specs.declared.space.Space.{Space}
use Rattle.qa_base.specs.machine.Breaches.{has_at_or_above}
use Rattle.qa_base.specs.values.Events.{is_space, is_named, acknowledges}
use Rattle.qa_base.specs.machine.Estimates.{sampled}
use Rattle.qa_base.specs.machine.Detection.{all_at, is_found}
use Rattle.qa_base.specs.machine.Loss.{owed, detection}
use Rattle.qa_base.specs.history.Sequence.{EachTwo, WasSentBefore}
use Rattle.qa_base.specs.machine.Packets.{Packet, packets, packets_of, is_of, is_acknowledged, is_declared_lost, is_newly_acknowledged, newly_acknowledged, greatest}
use Rattle.qa_base.specs.machine.Reno.{latest_sent, sent_mark}
use Rattle.qa_base.specs.machine.Rules.{IsRun}
use Rattle.qa_base.specs.values.Settings.{Settings}
use Rattle.qa_base.proofs.machine.RunLaws.{tolerated_run_of}
use Rattle.qa_laws.proofs.machine.BySpace.{newly_are_of}
use Rattle.qa_base.proofs.history.ToleratedRuns.{IsEarlier, each_earlier, in_order, in_order_of}
use Rattle.qa_base.proofs.history.Deadline.{find_none}
use Rattle.qa_base.proofs.history.Forgotten.{none_of}
use Rattle.qa_base.proofs.history.Pairs.{of_each, each_weaker, part_is, part_turned, two_of_part, two_turned, two_weaker}
use Rattle.qa_base.proofs.history.Pairs.{two_of_rest}
use Rattle.qa_laws.specs.machine.Latest.{first_if_numbered, is_first_at_or_above}
use Rattle.qa_laws.specs.machine.Conduct.{mark_of_first}

-- ---- a named number is at most the greatest

pub named_at_most : (ranges : List (ℕ × ℕ)) (n : ℕ) → is_named ranges n ≡ true → n ≤ greatest ranges
named_at_most [] n is = cc
named_at_most (range ∷ ranges) n is = elim (or_cases (nat_le range.0 n && nat_le n range.1) (is_named ranges n) is) [
  | inl here ↦ (let below = leb-true n range.1 (and_parts (nat_le range.0 n) (nat_le n range.1) here).1 in omega (arith, below))
  | inr later ↦ (let below = named_at_most ranges n later in omega (arith, below))
]

-- ---- the packet that is sampled

first_step : (n : ℕ) (p : Packet) (ps : List Packet) (here : Bool) → (p.number == n) ≡ here → AllByRecursion (IsEarlier p) ps → p.number ≤ n
    → (if here then Some p else find (λ (q : Packet). q.number == n) ps) ≡ (if here then Some p else None)
first_step n p ps true is earlier most = refl
first_step n p ps false is earlier most =
    find_none (λ q. q.number == n) ps (each_weaker (IsEarlier p) (λ q. (q.number == n) ≡ false) (λ q before. ne_eqb q.number n (λ same. omega (arith, same, before.number, most))) ps earlier)

highest_first : (n : ℕ) (ps : List Packet) → EachTwo IsEarlier ps → AllByRecursion (λ p. p.number ≤ n) ps → find (λ p. p.number == n) ps ≡ first_if_numbered n ps
highest_first n [] two most = refl
highest_first n (p ∷ ps) two most = first_step n p ps (p.number == n) refl two.0 most.0

-- in a run the packet with the largest number of an acknowledgment, where it is newly acknowledged, is the first of those
pub sampled_is_first : (c : Settings) (h : List Event) → IsRun c h → (ack : Acknowledgment)
    → find (λ p. p.number == greatest ack.ranges) (newly_acknowledged (Ack ack ∷ h)) ≡ first_if_numbered (greatest ack.ranges) (newly_acknowledged (Ack ack ∷ h))
sampled_is_first c h run ack =
    let e = Ack ack in
    let new = newly_acknowledged (e ∷ h) in
    highest_first (greatest ack.ranges) new
    (each_earlier ack.space new (newly_are_of h ack) (two_of_part WasSentBefore (is_newly_acknowledged e h) (packets h) (in_order c h (tolerated_run_of c h run))))
    (of_each (λ p. p.number ≤ greatest ack.ranges) new (λ p has.
    let is = (part_is (is_newly_acknowledged e h) (packets h) p has).1 in
    let parts = and_parts (acknowledges p.space p.number e && not (is_acknowledged h p)) (not (is_declared_lost h p)) is in
    let named = (and_parts (acknowledges p.space p.number e) (not (is_acknowledged h p)) parts.0).0 in
    named_at_most ack.ranges p.number (and_parts (is_space p.space ack.space) (is_named ack.ranges p.number) named).1))

-- ---- the greatest number that was sent

above_step : (n : ℕ) (p : Packet) (ps : List Packet) (here : Bool) → nat_le n p.number ≡ here → AllByRecursion (IsEarlier p) ps
    → (here || list_any (λ (q : Packet). nat_le n q.number) ps) ≡ here
above_step n p ps true is earlier = refl
above_step n p ps false is earlier =
    let above = leb-false n p.number is in
    none_of (λ q. nat_le n q.number) ps (each_weaker (IsEarlier p) (λ q. nat_le n q.number ≡ false) (λ q before. lt-leb n q.number (omega (arith, above, before.number))) ps earlier)

above_first : (n : ℕ) (ps : List Packet) → EachTwo IsEarlier ps → list_any (λ (q : Packet). nat_le n q.number) ps ≡ is_first_at_or_above n ps
above_first n [] two = refl
above_first n (p ∷ ps) two = above_step n p ps (nat_le n p.number) refl two.0

-- in a run a number is at most that of some packet of the space where it is at most that of the latest
pub above_is_latest : (c : Settings) (h : List Event) → IsRun c h → (s : Space) (n : ℕ) → has_at_or_above s n h ≡ is_first_at_or_above n (packets_of h s)
above_is_latest c h run s n = above_first n (packets_of h s) (in_order_of c h s (tolerated_run_of c h run))

-- ---- the last that was sent of some

sent_by : (c : Settings) (t : ℕ) (ps : List Packet) → AllByRecursion (λ q. sent_mark c q ≤ t) ps → latest_sent c ps ≤ t
sent_by c t [] all = omega arith
sent_by c t (p ∷ ps) all = let rest = sent_by c t ps all.1 in let here = all.0 in omega (arith, rest, here)

-- what was sent earlier was sent no later, by order and by time
no_later : (by_order : Bool) (p q : Packet) → IsEarlier p q → (if by_order then q.place else q.time) ≤ (if by_order then p.place else p.time)
no_later true p q before = let sooner = before.place in omega (arith, sooner)
no_later false p q before = before.time

latest_first : (c : Settings) (ps : List Packet) → EachTwo IsEarlier ps → latest_sent c ps ≡ mark_of_first c ps
latest_first c [] two = refl
latest_first c (p ∷ ps) two =
    let rest = sent_by c (sent_mark c p) ps (each_weaker (IsEarlier p) (λ q. sent_mark c q ≤ sent_mark c p) (λ q before. no_later c.options.recovery_by_order p q before) ps two.0) in
    omega (arith, rest)

found_in_order : (c : Settings) (h : List Event) → IsRun c h → (d : Option (Space × ℕ)) → EachTwo IsEarlier (all_at (is_found c (sampled c h) h) h d)
found_in_order c h run None = tt
found_in_order c h run (Some (s, now)) = two_of_part IsEarlier (is_found c (sampled c h) h now s) (packets_of h s) (in_order_of c h s (tolerated_run_of c h run))

-- in a run a loss is as late as its latest packet, the first of them
pub latest_owed : (c : Settings) (h : List Event) → IsRun c h → latest_sent c (owed c h) ≡ mark_of_first c (owed c h)
latest_owed c h run = latest_first c (owed c h) (found_in_order c h run (detection c h))

-- ---- numbers rise in the order of sending

-- in a run the packets of a space that are kept have rising numbers in the order of sending
pub kept_rise : (c : Settings) (h : List Event) → IsRun c h → (s : Space) (gone kept : List Packet) → reverse (packets h) ≡ gone ++ kept → EachTwo (λ p q. p.number < q.number) (filter (is_of s) kept)
kept_rise c h run s gone kept parts =
    let Later : Packet → Packet → Type 0 = λ p q. IsEarlier q p in
    let all : EachTwo Later (reverse (packets_of h s)) = two_turned IsEarlier (packets_of h s) (in_order_of c h s (tolerated_run_of c h run)) in
    let same : reverse (packets_of h s) ≡ filter (is_of s) gone ++ filter (is_of s) kept =
    sym (part_turned (is_of s) (packets h)) ∙ (ap (filter (is_of s)) parts ∙ filter-append (is_of s) gone kept) in
    two_weaker Later (λ p q. p.number < q.number) (λ p q before. before.number) (filter (is_of s) kept)
    (two_of_rest Later (filter (is_of s) gone) (filter (is_of s) kept) (subst (λ (ps : List Packet). EachTwo Later ps) same all))

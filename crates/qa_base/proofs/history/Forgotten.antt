-- Closed packets before the oldest open one may be forgotten.
use Rattle.qa_base.proofs.history.LostNow.{closed_not_lost, dropped_not_lost, lost_now_among}
use Rattle.qa_base.specs.machine.Kept.{is_kept}
use Rattle.qa_base.specs.history.Declared.{is_lost_now}
use Rattle.std.proofs.Common.{◌≡◌, ◌∙◌, ◌<◌, ◌+◌, ◌-◌, ℕ, List, [], ◌∷◌, ◌++◌, Bool, true, false, ◌&&◌, ◌||◌, not, add-zero, zero-add, refl, sym, ap, arith, subst, Contains, inl, inr, filter, sum_by}
use Rattle.std.proofs.lemmas.Bool.{and_parts, both_ways, false_from_ne_true, le-ltb}
use Rattle.std.proofs.lemmas.List.{append-nil}
use Rattle.std.proofs.lemmas.List.Elements.{filter-append, Contains-append_right}
use Rattle.std.proofs.lemmas.List.Sums.{sum_by-cons, sum_by-append}
use Rattle.std.proofs.lemmas.List.Folds.{list_any-append}
use Rattle.std.specs.List.{AllByRecursion, list_any}
use Rattle.std.specs.Prelude.{nat_lt, if◌then◌else◌}
use Rattle.qa_base.specs.declared.event.Event.{Event}
use Rattle.qa_base.specs.declared.event.Event.TheVariants.{Sent}
use Rattle.qa_base.specs.history.Among.{are_ends_among, is_persistent_among}
use Rattle.qa_base.specs.machine.Estimates.{sampled}
use Rattle.qa_base.specs.machine.Detection.{is_end, are_ends}
use Rattle.qa_base.specs.machine.Loss.{owed, is_owed, is_open, is_persistent, declared}
use Rattle.qa_base.specs.history.Sequence.{EachTwo, WasSentBefore}
use Rattle.qa_base.specs.machine.Packets.{Packet, packets, is_acknowledged, is_newly_acknowledged, newly_acknowledged}
use Rattle.qa_base.specs.machine.Rtt.{persistent_after}
use Rattle.qa_base.specs.machine.Violations.{IsToleratedRun}
use Rattle.qa_base.specs.values.Settings.{Settings, granularity, is_may}
use Rattle.qa_base.specs.history.Sums.{counted, open_sum}
use Rattle.qa_base.proofs.history.Closing.{owed_among}
use Rattle.qa_base.proofs.history.Changes.{owed_was_flying, newly_was_open}
use Rattle.qa_base.proofs.history.ToleratedRuns.{in_order}
use Rattle.qa_base.proofs.history.Pairs.{at_one, of_each, part_is, none_left, each_weaker, first_or_rest}
use Rattle.qa_base.specs.history.Parts.{AreClosed, AreDropped}

-- ---- by parts of a list

pub none_of : (test : Packet → Bool) (ps : List Packet) → AllByRecursion (λ p. test p ≡ false) ps → list_any test ps ≡ false
none_of test [] none = refl
none_of test (p ∷ ps) none = rw none.0 (none_of test ps none.1)

or_false : (a b : Bool) → b ≡ false → (a || b) ≡ a
or_false true b is = refl
or_false false b is = is

-- what no packet of the second part passes, some packet passes where one of the first part does
any_of_first : (test : Packet → Bool) (ps qs : List Packet) → AllByRecursion (λ p. test p ≡ false) qs → list_any test (ps ++ qs) ≡ list_any test ps
any_of_first test ps qs none = list_any-append test ps qs ∙ or_false (list_any test ps) (list_any test qs) (none_of test qs none)

part_of_first : (test : Packet → Bool) (ps qs : List Packet) → AllByRecursion (λ p. test p ≡ false) qs → filter test (ps ++ qs) ≡ filter test ps
part_of_first test ps qs none = filter-append test ps qs ∙ (ap (λ rs. filter test ps ++ rs) (none_left test qs none) ∙ append-nil (filter test ps))

same_any : (f g : Packet → Bool) (ps : List Packet) → AllByRecursion (λ p. f p ≡ g p) ps → list_any f ps ≡ list_any g ps
same_any f g [] same = refl
same_any f g (p ∷ ps) same = rw (same.0, same_any f g ps same.1) refl

each_of_second : (P : Packet → Type 0) (ps qs : List Packet) → AllByRecursion P (ps ++ qs) → AllByRecursion P qs
each_of_second P [] qs all = all
each_of_second P (p ∷ ps) qs all = each_of_second P ps qs all.1

-- what the second part of a list has stands behind what the first has
pub all_behind : (R : Packet → Packet → Type 0) (ps qs : List Packet) → EachTwo R (ps ++ qs) → (p : Packet) → Contains ps p → AllByRecursion (R p) qs
all_behind R [] qs two p (k, inside, is) = absurd (omega arith)
all_behind R (x ∷ ps) qs two p has = elim (first_or_rest x p ps has) [
  | inl here ↦ subst (λ (y : Packet). AllByRecursion (R y) qs) here (each_of_second (R x) ps qs two.0)
  | inr behind ↦ all_behind R ps qs two.1 p behind
]

-- ---- persistent congestion

-- a packet that stands no further on than the first is not between the two
not_between : (h : List Event) (p q m : Packet) → m.place < p.place → (nat_lt p.place m.place && nat_lt m.place q.place && is_acknowledged h m) ≡ false
not_between h p q m before = rw (le-ltb p.place m.place (omega (arith, before))) refl

ends_of_kept : (c : Settings) (g : List Event) (kept gone : List Packet) (p q : Packet) → packets g ≡ kept ++ gone → AllByRecursion (WasSentBefore p) gone
    → are_ends c (sampled c g) g p q ≡ are_ends_among c g kept p q
ends_of_kept c g kept gone p q parts behind =
    let between : Packet → Bool = λ m. nat_lt p.place m.place && nat_lt m.place q.place && is_acknowledged g m in
    let none : AllByRecursion (λ m. between m ≡ false) gone = each_weaker (WasSentBefore p) (λ m. between m ≡ false) (λ m before. not_between g p q m before.place) gone behind in
    let same : list_any between (packets g) ≡ list_any between kept = ap (list_any between) parts ∙ any_of_first between kept gone none in
    ap (λ b. is_end (sampled c g) p && is_end (sampled c g) q && nat_lt (persistent_after (granularity c) (sampled c g) c.max_ack_delay) (q.time - p.time) && not b) same

pairs_of_kept : (c : Settings) (g : List Event) (kept gone found : List Packet) → packets g ≡ kept ++ gone → EachTwo WasSentBefore (kept ++ gone)
    → AllByRecursion (λ p. AllByRecursion (WasSentBefore p) gone) found
    → list_any (λ p. list_any (are_ends c (sampled c g) g p) found) found ≡ list_any (λ p. list_any (are_ends_among c g kept p) found) found
pairs_of_kept c g kept gone found parts two behind =
    same_any (λ p. list_any (are_ends c (sampled c g) g p) found) (λ p. list_any (are_ends_among c g kept p) found) found
    (each_weaker (λ p. AllByRecursion (WasSentBefore p) gone) (λ p. list_any (are_ends c (sampled c g) g p) found ≡ list_any (are_ends_among c g kept p) found)
    (λ p before. same_any (are_ends c (sampled c g) g p) (are_ends_among c g kept p) found
    (of_each (λ q. are_ends c (sampled c g) g p q ≡ are_ends_among c g kept p q) found (λ q has. ends_of_kept c g kept gone p q parts before)))
    found behind)

-- none of the closed is found lost by the event that comes next
closed_not_owed : (c : Settings) (e : Event) (h : List Event) (kept gone : List Packet) → IsToleratedRun c (e ∷ h) → packets h ≡ kept ++ gone → AreClosed c h gone
    → AllByRecursion (λ p. is_owed c (e ∷ h) p ≡ false) gone
closed_not_owed c e h kept gone run parts closed = of_each (λ p. is_owed c (e ∷ h) p ≡ false) gone (λ p has.
    let inside : Contains (packets h) p = subst (λ (ps : List Packet). Contains ps p) (sym parts) (Contains-append_right kept gone p has) in
    let shut : is_open c h p ≡ false = at_one (λ q. is_open c h q ≡ false) gone p closed has in
    false_from_ne_true (is_owed c (e ∷ h) p) (λ is. both_ways (is_open c h p) shut (and_parts p.in_flight (is_open c h p) (owed_was_flying c e h run p inside is)).1))

-- in a tolerated run none of them is found lost
pub owed_of_kept : (c : Settings) (e : Event) (h : List Event) → IsToleratedRun c (e ∷ h) → (kept gone : List Packet) → packets h ≡ kept ++ gone → AreClosed c h gone
    → owed c (e ∷ h) ≡ filter (is_owed c (e ∷ h)) kept
owed_of_kept c e h run kept gone parts closed =
    sym (owed_among c e h) ∙ (ap (filter (is_owed c (e ∷ h))) parts ∙ part_of_first (is_owed c (e ∷ h)) kept gone (closed_not_owed c e h kept gone run parts closed))

-- nor lost by it where none is
lost_of_kept : (c : Settings) (e : Event) (h : List Event) (kept gone : List Packet) → packets h ≡ kept ++ gone → AllByRecursion (λ p. is_lost_now c (e ∷ h) p ≡ false) gone
    → declared c (e ∷ h) ≡ filter (is_lost_now c (e ∷ h)) kept
lost_of_kept c e h kept gone parts none =
    sym (lost_now_among c e h) ∙ (ap (filter (is_lost_now c (e ∷ h))) parts ∙ part_of_first (is_lost_now c (e ∷ h)) kept gone none)

persistent_if : (c : Settings) (e : Event) (h : List Event) (kept gone : List Packet) → IsToleratedRun c (e ∷ h) → packets (e ∷ h) ≡ packets h → packets h ≡ kept ++ gone
    → AllByRecursion (λ p. is_lost_now c (e ∷ h) p ≡ false) gone → is_persistent c (e ∷ h) ≡ is_persistent_among c (e ∷ h) kept
persistent_if c e h kept gone run same parts none =
    let lost = filter (is_lost_now c (e ∷ h)) kept in
    let two : EachTwo WasSentBefore (kept ++ gone) = subst (λ (ps : List Packet). EachTwo WasSentBefore ps) parts (in_order c h run.0) in
    let behind : AllByRecursion (λ p. AllByRecursion (WasSentBefore p) gone) lost = of_each (λ p. AllByRecursion (WasSentBefore p) gone) lost
    (λ p has. all_behind WasSentBefore kept gone two p (part_is (is_lost_now c (e ∷ h)) kept p has).0) in
    ap (λ found. list_any (λ p. list_any (are_ends c (sampled c (e ∷ h)) (e ∷ h) p) found) found) (lost_of_kept c e h kept gone parts none)
    ∙ pairs_of_kept c (e ∷ h) kept gone lost (same ∙ parts) two behind

-- in a tolerated run, packets before all others of which an event loses none have no part in whether it establishes persistent congestion
pub persistent_unless_lost : (c : Settings) (e : Event) (h : List Event) → IsToleratedRun c (e ∷ h) → (kept gone : List Packet) → packets h ≡ kept ++ gone
    → AllByRecursion (λ p. is_lost_now c (e ∷ h) p ≡ false) gone → is_persistent c (e ∷ h) ≡ is_persistent_among c (e ∷ h) kept
persistent_unless_lost c (Sent packet) h run kept gone parts none =
    ap (λ found. list_any (λ p. list_any (are_ends_among c (Sent packet ∷ h) kept p) found) found)
    (lost_of_kept c (Sent packet) h kept gone parts none)
persistent_unless_lost c e h run kept gone parts none = persistent_if c e h kept gone run refl parts none

gone_has : (h : List Event) (kept gone : List Packet) (p : Packet) → packets h ≡ kept ++ gone → Contains gone p → Contains (packets h) p
gone_has h kept gone p parts has = subst (λ (ps : List Packet). Contains ps p) (sym parts) (Contains-append_right kept gone p has)

-- so it is of packets of no use
pub persistent_of_kept : (c : Settings) (e : Event) (h : List Event) → IsToleratedRun c (e ∷ h) → (kept gone : List Packet) → packets h ≡ kept ++ gone → AreDropped c h gone
    → is_persistent c (e ∷ h) ≡ is_persistent_among c (e ∷ h) kept
persistent_of_kept c e h run kept gone parts dropped =
    persistent_unless_lost c e h run kept gone parts (of_each (λ p. is_lost_now c (e ∷ h) p ≡ false) gone
    (λ p has. dropped_not_lost c e h run p (gone_has h kept gone p parts has) (at_one (λ q. is_kept c h q ≡ false) gone p dropped has)))

-- and of closed ones, where losses by number must be declared
pub must_persistent_of_kept : (c : Settings) (e : Event) (h : List Event) → IsToleratedRun c (e ∷ h) → (kept gone : List Packet) → packets h ≡ kept ++ gone → is_may c.options.loss_by_number ≡ false
    → AreClosed c h gone → is_persistent c (e ∷ h) ≡ is_persistent_among c (e ∷ h) kept
must_persistent_of_kept c e h run kept gone parts must closed =
    persistent_unless_lost c e h run kept gone parts (of_each (λ p. is_lost_now c (e ∷ h) p ≡ false) gone
    (λ p has. closed_not_lost c e h run p (gone_has h kept gone p parts has) must (at_one (λ q. is_open c h q ≡ false) gone p closed has)))

-- ---- what else is never asked of them

-- in a tolerated run none of them is newly acknowledged
pub newly_of_kept : (c : Settings) (e : Event) (h : List Event) → IsToleratedRun c (e ∷ h) → (kept gone : List Packet) → packets h ≡ kept ++ gone → AreClosed c h gone
    → newly_acknowledged (e ∷ h) ≡ filter (is_newly_acknowledged e h) kept
newly_of_kept c e h run kept gone parts closed =
    ap (filter (is_newly_acknowledged e h)) parts ∙ part_of_first (is_newly_acknowledged e h) kept gone (of_each (λ p. is_newly_acknowledged e h p ≡ false) gone (λ p has.
    let inside : Contains (packets h) p = subst (λ (ps : List Packet). Contains ps p) (sym parts) (Contains-append_right kept gone p has) in
    let shut : is_open c h p ≡ false = at_one (λ q. is_open c h q ≡ false) gone p closed has in
    false_from_ne_true (is_newly_acknowledged e h p) (λ is. both_ways (is_open c h p) shut (newly_was_open c e h run p inside is))))

nothing_counted : (test : Packet → Bool) (weight : Packet → ℕ) (ps : List Packet) → AllByRecursion (λ p. test p ≡ false) ps → sum_by (counted test weight) ps ≡ 0
nothing_counted test weight [] none = refl
nothing_counted test weight (p ∷ ps) none =
    sum_by-cons (counted test weight) p ps ∙ (ap (λ b. (if b then weight p else 0) + sum_by (counted test weight) ps) none.0 ∙ (zero-add _ ∙ nothing_counted test weight ps none.1))

-- a sum over the open packets needs none of them
pub open_sum_of_kept : (weight : Packet → ℕ) (c : Settings) (h : List Event) → (kept gone : List Packet) → packets h ≡ kept ++ gone → AreClosed c h gone
    → open_sum weight c h ≡ sum_by (counted (is_open c h) weight) kept
open_sum_of_kept weight c h kept gone parts closed =
    ap (sum_by (counted (is_open c h) weight)) parts
    ∙ (sum_by-append (counted (is_open c h) weight) kept gone
    ∙ (ap (λ n. sum_by (counted (is_open c h) weight) kept + n) (nothing_counted (is_open c h) weight gone closed) ∙ add-zero _))

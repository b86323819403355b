-- Where packets that lie the packet threshold behind may be spared, a lower threshold frees more and owes the same.
use Rattle.std.proofs.Common.{◌≡◌, ◌∙◌, ◌+◌, ◌≤◌, ℕ, List, [], ◌∷◌, Bool, true, false, ◌&&◌, ◌||◌, not, Option, Some, None, refl, sym, ap, arith, Contains, filter, inl, inr, ◌⊎◌}
use Rattle.std.proofs.lemmas.Bool.{and_from, and_parts, and_right, both_ways, false_from_ne_true, le-leb, leb-true, ltb-true, not-false, or_cases, or_left, or_right}
use Rattle.std.specs.List.{list_all, list_any}
use Rattle.std.specs.Prelude.{nat_eq, nat_le, nat_lt, if◌then◌else◌}
use Rattle.qa_base.specs.declared.event.Event.{Event}
use Rattle.qa_base.specs.declared.event.Event.TheVariants.{Lost}
use Rattle.qa_base.specs.declared.space.Space.{Space}
use Rattle.qa_base.specs.machine.Breaches.{is_loss_not_owed, is_other_loss_set, numbers}
use Rattle.qa_base.specs.machine.Detection.{detection_by, distance_below, is_at, is_found, is_free_by, is_left, is_old, is_owed_by, is_past_threshold, is_unsettled, may_be_spared}
use Rattle.qa_base.specs.machine.Estimates.{sampled}
use Rattle.qa_base.specs.machine.Loss.{is_free, is_nameable, is_owed, nameable, owed}
use Rattle.qa_base.specs.machine.Numbers.{has_all, has_next, has_range, is_in, names_between}
use Rattle.qa_base.specs.machine.Packets.{Packet, packets, is_of, largest_acknowledged}
use Rattle.qa_base.specs.machine.Rtt.{Estimate}
use Rattle.qa_base.specs.machine.Rules.{IsRun}
use Rattle.qa_base.specs.values.Events.{declares_lost, is_named}
use Rattle.qa_base.specs.values.Settings.{Settings, is_may}
use Rattle.qa_base.proofs.machine.Ranges.{has_all_names}
use Rattle.qa_base.proofs.machine.RunLaws.{tolerated_run_of}
use Rattle.qa_laws.proofs.machine.Alike.{Agree, AsksAlike, Detects, OwesAlike, Tolerances, detects_at, like, owes_alike, same_owed, same_sampled}
use Rattle.qa_base.proofs.history.Changes.{named_is_nameable, spared_is_young}

-- ---- what is free

-- losses by number are asked for alike, and the threshold is the same, or packets may be spared and it is no higher
abbrev pub NoStricter : Settings → Tolerances → Type 0
NoStricter c t =
    AsksAlike c t
    × ((t.packet_threshold ≡ c.options.packet_threshold) ⊎ ((is_may c.options.loss_by_number ≡ true) × (t.packet_threshold ≤ c.options.packet_threshold)))

pub owes_if : (c : Settings) (t : Tolerances) → NoStricter c t → OwesAlike c t
owes_if c t (asked, inl same) = (asked, inl same)
owes_if c t (asked, inr no_higher) = (asked, inr no_higher.0)

at_most : (c : Settings) (t : Tolerances) → NoStricter c t → t.packet_threshold ≤ c.options.packet_threshold
at_most c t (asked, inl same) = omega (arith, same)
at_most c t (asked, inr no_higher) = no_higher.1

spared_more : (c : Settings) (t : Tolerances) → NoStricter c t → (r : Estimate) (h : List Event) (now : ℕ) (most : Option ℕ) (p : Packet) → may_be_spared c r h now most p ≡ true → may_be_spared (like c t) r h now most p ≡ true
spared_more c t no_stricter r h now None p is = cc
spared_more c t no_stricter r h now (Some m) p is =
    let may = is_may c.options.loss_by_number in
    let distance = distance_below c.options.threshold_counts h p.space p.number m in
    let young = and_parts (nat_lt p.number m && (may && nat_le c.options.packet_threshold distance)) (not (is_old c r now p)) is in
    let both = and_parts (nat_lt p.number m) (may && nat_le c.options.packet_threshold distance) young.0 in
    let by_number = and_parts may (nat_le c.options.packet_threshold distance) both.1 in
    let far = leb-true c.options.packet_threshold distance by_number.1 in
    let less = at_most c t no_stricter in
    let may_too : is_may t.loss_by_number ≡ true = ap is_may no_stricter.0.0 ∙ by_number.0 in
    ap (λ k. nat_lt p.number m && (is_may t.loss_by_number && nat_le t.packet_threshold (distance_below k h p.space p.number m)) && not (is_old c r now p)) no_stricter.0.1
    ∙ and_from (nat_lt p.number m && (is_may t.loss_by_number && nat_le t.packet_threshold distance)) (not (is_old c r now p))
    (and_from (nat_lt p.number m) (is_may t.loss_by_number && nat_le t.packet_threshold distance) both.0
    (and_from (is_may t.loss_by_number) (nat_le t.packet_threshold distance) may_too (le-leb t.packet_threshold distance (omega (arith, far, less))))) young.1

left_more : (c : Settings) (t : Tolerances) → NoStricter c t → (r : Estimate) (h : List Event) (p : Packet) (d : Option (Space × ℕ)) → is_at (is_left c r h) p d ≡ true → is_at (is_left (like c t) r h) p d ≡ true
left_more c t no_stricter r h p None is = cc
left_more c t no_stricter r h p (Some d) is =
    let parts = and_parts (is_of d.0 p) (is_left c r h d.1 d.0 p) is in
    let more = and_parts (p.in_flight && is_unsettled h p) (may_be_spared c r h d.1 (largest_acknowledged h d.0) p) parts.1 in
    and_from (is_of d.0 p) (is_left (like c t) r h d.1 d.0 p) parts.0
    (and_from (p.in_flight && is_unsettled h p) (may_be_spared (like c t) r h d.1 (largest_acknowledged h d.0) p) more.0 (spared_more c t no_stricter r h d.1 (largest_acknowledged h d.0) p more.1))

-- what is free is so under a lower threshold
frees_more : (c : Settings) (t : Tolerances) → NoStricter c t → (h : List Event) → Detects c t h → (p : Packet) → is_free_by c (sampled c h) h p ≡ true → is_free_by (like c t) (sampled c h) h p ≡ true
frees_more c t no_stricter h detects p is =
    ap (is_at (is_left (like c t) (sampled c h) h) p) (detects_at c t h detects) ∙ left_more c t no_stricter (sampled c h) h p (detection_by c (sampled c h) h) is

-- ---- what is owed is not free

found_not_left : (c : Settings) (r : Estimate) (h : List Event) (p : Packet) (d : Option (Space × ℕ)) → is_at (is_found c r h) p d ≡ true → is_at (is_left c r h) p d ≡ false
found_not_left c r h p None is = cc
found_not_left c r h p (Some d) is =
    let parts = and_parts (is_of d.0 p) (is_found c r h d.1 d.0 p) is in
    let past = (and_parts (p.in_flight && is_unsettled h p) (is_past_threshold c r h d.1 (largest_acknowledged h d.0) p) parts.1).1 in
    and_right (is_of d.0 p) (is_left c r h d.1 d.0 p)
    (and_right (p.in_flight && is_unsettled h p) (may_be_spared c r h d.1 (largest_acknowledged h d.0) p)
    (false_from_ne_true (may_be_spared c r h d.1 (largest_acknowledged h d.0) p) (λ spared.
    both_ways (is_past_threshold c r h d.1 (largest_acknowledged h d.0) p) (spared_is_young c r h d.1 (largest_acknowledged h d.0) p spared) past)))

owed_not_free : (c : Settings) (t : Tolerances) → NoStricter c t → (h : List Event) → Detects c t h → (p : Packet) → is_owed_by c (sampled c h) h p ≡ true → is_free_by (like c t) (sampled c h) h p ≡ false
owed_not_free c t no_stricter h detects p is =
    found_not_left (like c t) (sampled c h) h p (detection_by (like c t) (sampled c h) h) (owes_alike c t (owes_if c t no_stricter) h detects p ∙ is)

-- ---- a run names the same of it

and_none : (a : Bool) → (a && false) ≡ false
and_none true = refl
and_none false = refl

names_by : (owed_then free_then free_more named : Bool) → (named ≡ true → (owed_then || free_then) ≡ true) → (free_then ≡ true → free_more ≡ true) → (owed_then ≡ true → free_more ≡ false)
    → (free_more && named) ≡ (free_then && named)
names_by owed_then free_then free_more false may more apart = and_none free_more ∙ sym (and_none free_then)
names_by owed_then true free_more true may more apart = rw (more refl) refl
names_by true false free_more true may more apart = rw (apart refl) refl
names_by false false free_more true may more apart = let no = may refl in cc

names_alike : (c : Settings) (t : Tolerances) → NoStricter c t → (e : Event) (h : List Event) → IsRun c (e ∷ h) → Detects c t h → (p : Packet) → Contains (packets h) p
    → (is_free_by (like c t) (sampled c h) h p && declares_lost p.space p.number e) ≡ (is_free_by c (sampled c h) h p && declares_lost p.space p.number e)
names_alike c t no_stricter (Lost time space ranges) h run detects p has =
    names_by (is_owed c h p) (is_free c h p) (is_free_by (like c t) (sampled c h) h p) (declares_lost p.space p.number (Lost time space ranges))
    (named_is_nameable c h time space ranges (tolerated_run_of c (Lost time space ranges ∷ h) run) p has) (frees_more c t no_stricter h detects p) (owed_not_free c t no_stricter h detects p)
names_alike c t no_stricter _ h run detects p has = and_none (is_free_by (like c t) (sampled c h) h p) ∙ sym (and_none (is_free c h p))

-- so both agree at each event of a run
pub agree_in : (c : Settings) (t : Tolerances) (h : List Event) → NoStricter c t → Detects c t h → IsRun c h → Agree c t h
agree_in c t [] no_stricter detects run = tt
agree_in c t (e ∷ h) no_stricter detects run = (
  agree_in c t h no_stricter detects.0 run.0,
  record { owes = λ p has. owes_alike c t (owes_if c t no_stricter) (e ∷ h) detects p; names = names_alike c t no_stricter e h run detects.0 },
)

-- ---- what a Lost line may name

nameable_more : (c : Settings) (t : Tolerances) (h : List Event) → NoStricter c t → Detects c t h → Agree c t h → (p : Packet) → is_nameable c h p ≡ true → is_nameable (like c t) h p ≡ true
nameable_more c t h no_stricter detects agree p is = elim (or_cases (is_owed c h p) (is_free c h p) is) [
  | inl owed_then ↦ or_left (is_owed (like c t) h p) (is_free (like c t) h p) (ap (λ r. is_owed_by (like c t) r h p) (same_sampled c t h agree) ∙ owes_alike c t (owes_if c t no_stricter) h detects p ∙ owed_then)
  | inr free_then ↦ or_right (is_owed (like c t) h p) (is_free (like c t) h p)
      (ap (λ r. is_free_by (like c t) r h p) (same_sampled c t h agree) ∙ frees_more c t no_stricter h detects p free_then)
]

any_if : (test : Packet → Bool) (p : Packet) (some more : List Packet) (a b : Bool) → (a ≡ true → b ≡ true) → (list_any test some ≡ true → list_any test more ≡ true)
    → list_any test (if a then p ∷ some else some) ≡ true → list_any test (if b then p ∷ more else more) ≡ true
any_if test p some more true false keeps rest is = let no = keeps refl in cc
any_if test p some more true true keeps rest is = elim (or_cases (test p) (list_any test some) is) [
  | inl here ↦ or_left (test p) (list_any test more) here
  | inr later ↦ or_right (test p) (list_any test more) (rest later)
]
any_if test p some more false true keeps rest is = or_right (test p) (list_any test more) (rest is)
any_if test p some more false false keeps rest is = rest is

any_more : (test f g : Packet → Bool) (ps : List Packet) → ((p : Packet) → f p ≡ true → g p ≡ true) → list_any test (filter f ps) ≡ true → list_any test (filter g ps) ≡ true
any_more test f g [] keeps is = is
any_more test f g (p ∷ ps) keeps is = any_if test p (filter f ps) (filter g ps) (f p) (g p) (keeps p) (any_more test f g ps keeps) is

pub not_owed_passes : (c : Settings) (t : Tolerances) (h : List Event) → NoStricter c t → Detects c t h → Agree c t h → (e : Event) → is_loss_not_owed c h e ≡ false → is_loss_not_owed (like c t) h e ≡ false
not_owed_passes c t h no_stricter detects agree (Lost time space ranges) is =
    let some = any_more (is_of space) (is_nameable c h) (is_nameable (like c t) h) (packets h) (nameable_more c t h no_stricter detects agree) (not-false (list_any (is_of space) (nameable c h)) is) in
    rw some refl
not_owed_passes c t h no_stricter detects agree _ is = refl

-- ---- the numbers of more packets

number_if : (n : ℕ) (p : Packet) (some more : List Packet) (a b : Bool) → (a ≡ true → b ≡ true) → (is_in (numbers some) n ≡ true → is_in (numbers more) n ≡ true)
    → is_in (numbers (if a then p ∷ some else some)) n ≡ true → is_in (numbers (if b then p ∷ more else more)) n ≡ true
number_if n p some more true false keeps rest is = let no = keeps refl in cc
number_if n p some more true true keeps rest is = elim (or_cases (nat_eq p.number n) (is_in (numbers some) n) is) [
  | inl here ↦ or_left (nat_eq p.number n) (is_in (numbers more) n) here
  | inr later ↦ or_right (nat_eq p.number n) (is_in (numbers more) n) (rest later)
]
number_if n p some more false true keeps rest is = or_right (nat_eq p.number n) (is_in (numbers more) n) (rest is)
number_if n p some more false false keeps rest is = rest is

numbers_more : (f g : Packet → Bool) (ps : List Packet) → ((p : Packet) → f p ≡ true → g p ≡ true) → (n : ℕ) → is_in (numbers (filter f ps)) n ≡ true → is_in (numbers (filter g ps)) n ≡ true
numbers_more f g [] keeps n is = is
numbers_more f g (p ∷ ps) keeps n is = number_if n p (filter f ps) (filter g ps) (f p) (g p) (keeps p) (numbers_more f g ps keeps n) is

next_if : (some more : List ℕ) (range : ℕ × ℕ) (m : ℕ) (inside : Bool) → (nat_le range.0 m && nat_lt m range.1) ≡ inside → has_range some range ≡ true → ((n : ℕ) → is_in some n ≡ true → is_in more n ≡ true)
    → (not inside || is_in more (m + 1)) ≡ true
next_if some more range m false is has keeps = refl
next_if some more range m true is has keeps =
    let bounds = and_parts (nat_le range.0 m) (nat_lt m range.1) is in
    let low = leb-true range.0 m bounds.0 in
    let high = ltb-true m range.1 bounds.1 in
    let named : is_named (range ∷ []) (m + 1) ≡ true = or_left (nat_le range.0 (m + 1) && nat_le (m + 1) range.1) false
    (and_from (nat_le range.0 (m + 1)) (nat_le (m + 1) range.1) (le-leb range.0 (m + 1) (omega (arith, low))) (le-leb (m + 1) range.1 (omega (arith, high)))) in
    keeps (m + 1) (has_all_names some (range ∷ []) (and_from (has_range some range) true has refl) (m + 1) named)

all_next : (some more : List ℕ) (range : ℕ × ℕ) → has_range some range ≡ true → ((n : ℕ) → is_in some n ≡ true → is_in more n ≡ true) → (ms : List ℕ)
    → list_all (has_next more range.0 range.1) ms ≡ true
all_next some more range has keeps [] = refl
all_next some more range has keeps (m ∷ ms) =
    and_from (has_next more range.0 range.1 m) (list_all (has_next more range.0 range.1) ms) (next_if some more range m (nat_le range.0 m && nat_lt m range.1) refl has keeps) (all_next some more range has keeps ms)

range_more : (some more : List ℕ) (range : ℕ × ℕ) → ((n : ℕ) → is_in some n ≡ true → is_in more n ≡ true) → has_range some range ≡ true → has_range more range ≡ true
range_more some more range keeps has =
    and_from (is_in more range.0) (list_all (has_next more range.0 range.1) more)
    (keeps range.0 (and_parts (is_in some range.0) (list_all (has_next some range.0 range.1) some) has).0) (all_next some more range has keeps more)

all_more : (some more : List ℕ) (ranges : List (ℕ × ℕ)) → ((n : ℕ) → is_in some n ≡ true → is_in more n ≡ true) → has_all some ranges ≡ true → has_all more ranges ≡ true
all_more some more [] keeps all = refl
all_more some more (range ∷ ranges) keeps all =
    let parts = and_parts (has_range some range) (has_all some ranges) all in
    and_from (has_range more range) (has_all more ranges) (range_more some more range keeps parts.0) (all_more some more ranges keeps parts.1)

pub loss_set_passes : (c : Settings) (t : Tolerances) (h : List Event) → NoStricter c t → Detects c t h → Agree c t h → (e : Event) → is_other_loss_set c h e ≡ false → is_other_loss_set (like c t) h e ≡ false
loss_set_passes c t h no_stricter detects agree (Lost time space ranges) is =
    let between = not-false (names_between ranges (numbers (owed c h)) (numbers (nameable c h))) is in
    let parts = and_parts (has_all (numbers (nameable c h)) ranges) (list_all (is_named ranges) (numbers (owed c h))) between in
    let most = all_more (numbers (nameable c h)) (numbers (nameable (like c t) h)) ranges
    (numbers_more (is_nameable c h) (is_nameable (like c t) h) (packets h) (nameable_more c t h no_stricter detects agree)) parts.0 in
    let least : list_all (is_named ranges) (numbers (owed (like c t) h)) ≡ true = ap (λ ps. list_all (is_named ranges) (numbers ps)) (same_owed c t h agree) ∙ parts.1 in
    rw (most, least) refl
loss_set_passes c t h no_stricter detects agree _ is = refl

-- Runs as sets of numbers.
use Rattle.std.proofs.Common.{◌≡◌, ℕ, zero, suc, ◌+◌, ◌-◌, ◌≤◌, ◌<◌, Bool, true, false, ◌&&◌, ◌||◌, min, max, List, [], ◌∷◌, ◌++◌, length, get_or, take, drop, find, slice_get, Option, Some, None, is_some, IfSome, option_copied, Bor, refl, sym, ◌∙◌, ap, arith, inl, inr, Result, Ok, Err, OnOk, OnErr, nat_eq, nat_le, nat_lt, slice_set}
use Rattle.std.specs.List.{AllByRecursion}
use Rattle.std.specs.List.Sorted.{IsNonDecreasingBy, IsPartitionedBy, IsPartitionPoint}
use Rattle.std.proofs.lemmas.Bool.{cases_Bool, cases_lt, and_parts, and_from, or_cases, or_left, or_right, eqb-true, le-ltb, lt-ltb, le-leb, lt-leb, leb-true, leb-false, ltb-true, ltb-false, false_from_ne_true}
use Rattle.std.proofs.lemmas.Bool.Decides.{nat_tests}
use Rattle.std.proofs.lemmas.List.Sorted.{IsPartitionedBy-ltb}
use Rattle.std.proofs.lemmas.List.{drop_all, drop_more, drop-set, take-append-drop, take-set}
use Rattle.std.proofs.lemmas.Option.{same_Some, slice_get_cases, slice_get-get_or, slice_get_past, slice_get_within, get_or_from_slice_get}
use Rattle.qa_base.specs.values.Events.{is_named}
use Rattle.qa_packet_numbers.specs.Runs.{AreApart, HasEach, IsGreatest, ends_before, is_within, joined, inserted, lengthened}

-- the number is in the run
abbrev pub is_between : ℕ × ℕ → ℕ → Bool
is_between run n = nat_le run.0 n && nat_le n run.1

or_swap : (a b c : Bool) → (a || (b || c)) ≡ (b || (a || c))
or_swap false b c = refl
or_swap true false c = refl
or_swap true true c = refl

or_assoc : (a b c : Bool) → ((a || b) || c) ≡ (a || (b || c))
or_assoc false b c = refl
or_assoc true b c = refl

-- ---- runs that are apart

-- what is in later runs is above
pub above : (b : ℕ) (runs : List (ℕ × ℕ)) (n : ℕ) → AllByRecursion (λ later. b + 1 < later.0) runs → is_named runs n ≡ true → b + 1 < n
above b [] n all named = cc
above b (q ∷ qs) n all named =
    elim (or_cases (is_between q n) (is_named qs n) named) [
      | inl here ↦ (let low = leb-true q.0 n (and_parts (nat_le q.0 n) (nat_le n q.1) here).0 in omega (arith, all.0))
      | inr later ↦ above b qs n all.1 later
    ]

pub not_above : (b : ℕ) (runs : List (ℕ × ℕ)) (n : ℕ) → AllByRecursion (λ later. b + 1 < later.0) runs → n ≤ b + 1 → is_named runs n ≡ false
not_above b runs n all low = false_from_ne_true (is_named runs n) (λ named. let high = above b runs n all named in omega arith)

pub later_at : (b : ℕ) (runs : List (ℕ × ℕ)) (i : ℕ) (d : ℕ × ℕ) → AllByRecursion (λ later. b + 1 < later.0) runs → i < length runs → b + 1 < (get_or runs i d).0
later_at b [] i d all within = absurd (omega arith)
later_at b (q ∷ qs) zero d all within = all.0
later_at b (q ∷ qs) (suc i) d all within = later_at b qs i d all.1 (omega arith)

-- each run is from a number to one that is not below it
pub order_at : (runs : List (ℕ × ℕ)) (i : ℕ) (d : ℕ × ℕ) → AreApart runs → i < length runs → (get_or runs i d).0 ≤ (get_or runs i d).1
order_at [] i d apart within = absurd (omega arith)
order_at (r ∷ rs) zero d apart within = apart.0
order_at (r ∷ rs) (suc i) d apart within = order_at rs i d apart.2 (omega arith)

-- of two runs the earlier ends before the later
pub apart_at : (runs : List (ℕ × ℕ)) (i j : ℕ) (d : ℕ × ℕ) → AreApart runs → i < j → j < length runs → (get_or runs i d).1 + 1 < (get_or runs j d).0
apart_at [] i j d apart less within = absurd (omega arith)
apart_at (r ∷ rs) i zero d apart less within = absurd (omega arith)
apart_at (r ∷ rs) zero (suc j) d apart less within = later_at r.1 rs j d apart.1 (omega arith)
apart_at (r ∷ rs) (suc i) (suc j) d apart less within = apart_at rs i j d apart.2 (omega arith) (omega arith)

-- their ends rise
pub ends_rise : (runs : List (ℕ × ℕ)) → AreApart runs → IsNonDecreasingBy (λ run. run.1) runs
ends_rise runs apart i j d order within =
    elim (cases_lt i j) [
      | inl less ↦ (let gap = apart_at runs i j d apart less within in let later = order_at runs j d apart within in omega arith)
      | inr same ↦ (let e : i ≡ j = omega arith in rw e (omega arith))
    ]

-- ---- one run more

merged : (a b c d n : ℕ) → a ≤ b → c ≤ d → a ≤ d + 1 → c ≤ b + 1 → (nat_le (min a c) n && nat_le n (max b d)) ≡ ((nat_le a n && nat_le n b) || (nat_le c n && nat_le n d))
merged a b c d n ab cd ad cb = grind (arith, nat_tests)

-- the runs with those of a span have the numbers of both
pub names_inserted : (s : ℕ × ℕ) (runs : List (ℕ × ℕ)) (n : ℕ) → s.0 ≤ s.1 → AreApart runs → is_named (inserted s runs) n ≡ is_named (s ∷ runs) n
names_inserted s [] n order apart = refl
names_inserted s (r ∷ rs) n order apart =
    elim (cases_Bool (ends_before r s.0)) [
      | inl before ↦ rw (before, names_inserted s rs n order apart.2) (or_swap (is_between r n) (is_between s n) (is_named rs n))
      | inr reached ↦ elim (cases_Bool (ends_before s r.0)) [
        | inl behind ↦ rw (reached, behind) refl
        | inr touching ↦ (let low : s.0 ≤ r.1 + 1 = ltb-false (r.1 + 1) s.0 reached in
            let high : r.0 ≤ s.1 + 1 = ltb-false (s.1 + 1) r.0 touching in
            let longer : (joined s r).0 ≤ (joined s r).1 = omega (arith, apart.0, order) in
            rw (reached, touching, names_inserted (joined s r) rs n longer apart.2, merged s.0 s.1 r.0 r.1 n order apart.0 low high)
            (or_assoc (is_between s n) (is_between r n) (is_named rs n)))
      ]
    ]

pub further : (a b : ℕ) (runs : List (ℕ × ℕ)) → a ≤ b → AllByRecursion (λ later. b + 1 < later.0) runs → AllByRecursion (λ later. a + 1 < later.0) runs
further a b [] low all = tt
further a b (q ∷ qs) low all = (omega (arith, all.0), further a b qs low all.1)

far_inserted : (b : ℕ) (s : ℕ × ℕ) (runs : List (ℕ × ℕ)) → b + 1 < s.0 → AllByRecursion (λ later. b + 1 < later.0) runs → AllByRecursion (λ later. b + 1 < later.0) (inserted s runs)
far_inserted b s [] low all = (low, tt)
far_inserted b s (r ∷ rs) low all =
    elim (cases_Bool (ends_before r s.0)) [
      | inl before ↦ rw before (all.0, far_inserted b s rs low all.1)
      | inr reached ↦ elim (cases_Bool (ends_before s r.0)) [
        | inl behind ↦ rw (reached, behind) (low, all)
        | inr touching ↦ (let least : b + 1 < (joined s r).0 = omega (arith, all.0, low) in rw (reached, touching) (far_inserted b (joined s r) rs least all.1))
      ]
    ]

-- they stay apart
pub apart_inserted : (s : ℕ × ℕ) (runs : List (ℕ × ℕ)) → s.0 ≤ s.1 → AreApart runs → AreApart (inserted s runs)
apart_inserted s [] order apart = (order, tt, tt)
apart_inserted s (r ∷ rs) order apart =
    elim (cases_Bool (ends_before r s.0)) [
      | inl before ↦ (let gap : r.1 + 1 < s.0 = ltb-true (r.1 + 1) s.0 before in
          rw before (apart.0, far_inserted r.1 s rs gap apart.1, apart_inserted s rs order apart.2))
      | inr reached ↦ elim (cases_Bool (ends_before s r.0)) [
        | inl behind ↦ (let gap : s.1 + 1 < r.0 = ltb-true (s.1 + 1) r.0 behind in
            let less : s.1 ≤ r.1 = omega (arith, apart.0, gap) in
            rw (reached, behind) (order, (gap, further s.1 r.1 rs less apart.1), apart))
        | inr touching ↦ (let longer : (joined s r).0 ≤ (joined s r).1 = omega (arith, apart.0, order) in rw (reached, touching) (apart_inserted (joined s r) rs longer apart.2))
      ]
    ]

-- the runs that end before the span stay as they are
pub inserted_behind : (s : ℕ × ℕ) (runs : List (ℕ × ℕ)) (i : ℕ) → ((k : ℕ) (d : ℕ × ℕ) → 0 ≤ k → k < i → ends_before (get_or runs k d) s.0 ≡ true) → i ≤ length runs
    → inserted s runs ≡ take i runs ++ inserted s (drop i runs)
inserted_behind s runs zero before within = refl
inserted_behind s [] (suc i) before within = absurd (omega arith)
inserted_behind s (r ∷ rs) (suc i) before within =
    rw (before 0 r (omega arith) (omega arith), inserted_behind s rs i (λ k d low less. before (suc k) d (omega arith) (omega arith)) (omega arith)) refl

-- ---- the first run that does not end below a number

-- where the runs below the number end
pub found_at : (n : ℕ) (runs : List (ℕ × ℕ)) (i : ℕ) → i ≤ length runs
    → ((k : ℕ) (d : ℕ × ℕ) → 0 ≤ k → k < i → nat_lt (get_or runs k d).1 n ≡ true)
    → ((k : ℕ) (d : ℕ × ℕ) → i ≤ k → k < length runs → nat_lt (get_or runs k d).1 n ≡ false)
    → slice_get runs i ≡ find (λ run. nat_le n run.1) runs
found_at n [] i within below from = refl
found_at n (r ∷ rs) zero within below from =
    let here : n ≤ r.1 = ltb-false r.1 n (from 0 r (omega arith) (omega arith)) in rw (le-leb n r.1 here) refl
found_at n (r ∷ rs) (suc i) within below from =
    let here : r.1 < n = ltb-true r.1 n (below 0 r (omega arith) (omega arith)) in
    rw (lt-leb n r.1 here) (found_at n rs i (omega arith) (λ k d low less. below (suc k) d (omega arith) (omega arith)) (λ k d low less. from (suc k) d (omega arith) (omega arith)))

-- the run found begins at the number or below
abbrev pub begins_by : ℕ → Option (ℕ × ℕ) → Bool
begins_by n None = false
begins_by n (Some run) = nat_le run.0 n

-- a number is in the set where it is in that run
pub named_is_found : (n : ℕ) (runs : List (ℕ × ℕ)) → AreApart runs → is_named runs n ≡ begins_by n (find (λ run. nat_le n run.1) runs)
named_is_found n [] apart = refl
named_is_found n (r ∷ rs) apart =
    elim (cases_Bool (nat_le n r.1)) [
      | inl here ↦ (let high = leb-true n r.1 here in rw (here, not_above r.1 rs n apart.1 (omega arith)) (grind (arith, nat_tests)))
      | inr past ↦ rw (past, named_is_found n rs apart.2) (grind (arith, nat_tests))
    ]

-- the run found has all of the span
abbrev pub spans_all : ℕ × ℕ → Option (ℕ × ℕ) → Bool
spans_all span None = false
spans_all span (Some run) = is_within span run

pub each_from_spans : (s : ℕ × ℕ) (runs : List (ℕ × ℕ)) → spans_all s (find (λ run. nat_le s.0 run.1) runs) ≡ true → HasEach runs s
each_from_spans s [] spans n low high = cc
each_from_spans s (r ∷ rs) spans n low high =
    elim (cases_Bool (nat_le s.0 r.1)) [
      | inl here ↦ (let parts = and_parts (nat_le r.0 s.0) (nat_le s.1 r.1) (rw here at spans) in
          let begins = leb-true r.0 s.0 parts.0 in
          let ends = leb-true s.1 r.1 parts.1 in
          or_left (is_between r n) (is_named rs n) (and_from (nat_le r.0 n) (nat_le n r.1) (le-leb r.0 n (omega arith)) (le-leb n r.1 (omega arith))))
      | inr past ↦ or_right (is_between r n) (is_named rs n) (each_from_spans s rs (rw past at spans) n low high)
    ]

named_later : (r : ℕ × ℕ) (rs : List (ℕ × ℕ)) (n : ℕ) → is_named (r ∷ rs) n ≡ true → r.1 < n → is_named rs n ≡ true
named_later r rs n named past =
    elim (or_cases (is_between r n) (is_named rs n) named) [
      | inl here ↦ absurd (let high = leb-true n r.1 (and_parts (nat_le r.0 n) (nat_le n r.1) here).1 in omega arith)
      | inr later ↦ later
    ]

named_here : (r : ℕ × ℕ) (rs : List (ℕ × ℕ)) (n : ℕ) → is_named (r ∷ rs) n ≡ true → AllByRecursion (λ later. r.1 + 1 < later.0) rs → n ≤ r.1 + 1 → (r.0 ≤ n) × (n ≤ r.1)
named_here r rs n named later low =
    elim (or_cases (is_between r n) (is_named rs n) named) [
      | inl here ↦ (let parts = and_parts (nat_le r.0 n) (nat_le n r.1) here in (leb-true r.0 n parts.0, leb-true n r.1 parts.1))
      | inr behind ↦ absurd (let high = above r.1 rs n later behind in omega arith)
    ]

ends_past : (s : ℕ × ℕ) (r : ℕ × ℕ) (rs : List (ℕ × ℕ)) → AreApart (r ∷ rs) → HasEach (r ∷ rs) s → s.0 ≤ r.1 → s.1 ≤ r.1
ends_past s r rs apart each low =
    elim (cases_lt r.1 s.1) [
      | inl less ↦ absurd (let gap = named_here r rs (r.1 + 1) (each (r.1 + 1) (omega arith) (omega arith)) apart.1 (omega arith) in omega (arith, gap.1))
      | inr most ↦ most
    ]

pub spans_from_each : (s : ℕ × ℕ) (runs : List (ℕ × ℕ)) → s.0 ≤ s.1 → AreApart runs → HasEach runs s → spans_all s (find (λ run. nat_le s.0 run.1) runs) ≡ true
spans_from_each s [] order apart each = (let none : is_named [] s.0 ≡ true = each s.0 (omega arith) order in cc)
spans_from_each s (r ∷ rs) order apart each =
    elim (cases_Bool (nat_le s.0 r.1)) [
      | inl here ↦ (let low = leb-true s.0 r.1 here in
          let begins = named_here r rs s.0 (each s.0 (omega arith) order) apart.1 (omega arith) in
          rw here (and_from (nat_le r.0 s.0) (nat_le s.1 r.1) (le-leb r.0 s.0 begins.0) (le-leb s.1 r.1 (ends_past s r rs apart each low))))
      | inr past ↦ (let high = leb-false s.0 r.1 past in
          rw past (spans_from_each s rs order apart.2 (λ n low most. named_later r rs n (each n low most) (omega arith))))
    ]

-- ---- the greatest number

greatest_at : (runs : List (ℕ × ℕ)) (i : ℕ) (d : ℕ × ℕ) → suc i ≡ length runs → AreApart runs → IsGreatest runs (Some (get_or runs i d).1)
greatest_at [] i d last apart = absurd (omega arith)
greatest_at (r ∷ []) zero d last apart = (
  or_left (is_between r r.1) false (and_from (nat_le r.0 r.1) (nat_le r.1 r.1) (le-leb r.0 r.1 apart.0) (le-leb r.1 r.1 (omega arith))),
  λ n named. elim (or_cases (is_between r n) false named) [
    | inl here ↦ leb-true n r.1 (and_parts (nat_le r.0 n) (nat_le n r.1) here).1
    | inr never ↦ cc
  ],
)
greatest_at (r ∷ []) (suc i) d last apart = absurd (omega arith)
greatest_at (r ∷ (q ∷ qs)) zero d last apart = absurd (omega arith)
greatest_at (r ∷ (q ∷ qs)) (suc i) d last apart =
    let within : i < length (q ∷ qs) = omega arith in
    let rest = greatest_at (q ∷ qs) i d (omega arith) apart.2 in
    let gap = later_at r.1 (q ∷ qs) i d apart.1 within in
    let order = order_at (q ∷ qs) i d apart.2 within in (
      or_right (is_between r (get_or (q ∷ qs) i d).1) (is_named (q ∷ qs) (get_or (q ∷ qs) i d).1) rest.0,
      λ n named. elim (or_cases (is_between r n) (is_named (q ∷ qs) n) named) [
        | inl here ↦ (let high = leb-true n r.1 (and_parts (nat_le r.0 n) (nat_le n r.1) here).1 in omega arith)
        | inr later ↦ rest.1 n later
      ],
    )

abbrev pub end_of : Option (ℕ × ℕ) → Option ℕ
end_of None = None
end_of (Some run) = Some run.1

-- the end of the last run
pub greatest_is_last : (runs : List (ℕ × ℕ)) → AreApart runs → IsGreatest runs (end_of (slice_get runs (length runs - 1)))
greatest_is_last [] apart = λ n. refl
greatest_is_last (r ∷ rs) apart =
    let i : length (r ∷ rs) - 1 ≡ length rs = omega arith in
    rw (i, slice_get-get_or (r ∷ rs) (length rs) r (omega arith)) (greatest_at (r ∷ rs) (length rs) r refl apart)

-- ---- where runs end before a number

-- all do, where the last does
pub all_before : (runs : List (ℕ × ℕ)) (last : ℕ × ℕ) (number : ℕ) → AreApart runs → slice_get runs (length runs - 1) ≡ Some last → ends_before last number ≡ true
    → IsPartitionPoint (λ run. ends_before run number ≡ true) (λ run. ends_before run number ≡ false) runs (length runs)
all_before runs last number apart at before = (
  (λ k d low less. let within = slice_get_within runs (length runs - 1) last at in
      let here : get_or runs (length runs - 1) d ≡ last = get_or_from_slice_get runs (length runs - 1) last d at in
      let rise = rw here at (ends_rise runs apart k (length runs - 1) d (omega arith) within) in
      let bound = ltb-true (last.1 + 1) number before in
      lt-ltb ((get_or runs k d).1 + 1) number (omega (arith, rise, bound))),
  (λ k d low less. absurd (omega arith)),
)

-- all but the last do, where the number is in it or right behind it
pub all_before_last : (runs : List (ℕ × ℕ)) (last : ℕ × ℕ) (number : ℕ) → AreApart runs → slice_get runs (length runs - 1) ≡ Some last → ends_before last number ≡ false → last.0 ≤ number
    → IsPartitionPoint (λ run. ends_before run number ≡ true) (λ run. ends_before run number ≡ false) runs (length runs - 1)
all_before_last runs last number apart at reached begins = (
  (λ k d low less. let within = slice_get_within runs (length runs - 1) last at in
      let here : get_or runs (length runs - 1) d ≡ last = get_or_from_slice_get runs (length runs - 1) last d at in
      let gap = rw here at (apart_at runs k (length runs - 1) d apart less within) in
      lt-ltb ((get_or runs k d).1 + 1) number (omega (arith, gap, begins))),
  (λ k d low less. let same : k ≡ length runs - 1 = omega arith in
      let here : get_or runs (length runs - 1) d ≡ last = get_or_from_slice_get runs (length runs - 1) last d at in
      rw (same, here) reached),
)

-- a binary search may ask for it
pub parted_by_ends : (runs : List (ℕ × ℕ)) (number : ℕ) → AreApart runs → IsPartitionedBy (λ run. nat_lt run.1 number) runs
parted_by_ends runs number apart = IsPartitionedBy-ltb (λ run. run.1) runs number (ends_rise runs apart)

pub parted_before : (runs : List (ℕ × ℕ)) (number : ℕ) → AreApart runs → IsPartitionedBy (λ run. ends_before run number) runs
parted_before runs number apart =
    IsPartitionedBy-ltb (λ run. run.1 + 1) runs number (λ i j d order within. (let rise = ends_rise runs apart i j d order within in omega arith))

-- ---- what a span touches

-- a run that it touches is joined with it
pub reach_more : (s run r : ℕ × ℕ) (rs : List (ℕ × ℕ)) → ends_before r s.0 ≡ false → run.0 ≤ s.0 → ends_before run r.0 ≡ false → inserted run (r ∷ rs) ≡ inserted (joined run r) rs
reach_more s run r rs reached low touching =
    let behind : ends_before r run.0 ≡ false = (let high = ltb-false (r.1 + 1) s.0 reached in le-ltb (r.1 + 1) run.0 (omega arith)) in
    rw (behind, touching) refl

-- a run that lies behind it stays, with those after it
pub reach_end : (s run r : ℕ × ℕ) (rs : List (ℕ × ℕ)) → ends_before r s.0 ≡ false → run.0 ≤ s.0 → ends_before run r.0 ≡ true → inserted run (r ∷ rs) ≡ run ∷ (r ∷ rs)
reach_end s run r rs reached low behind =
    let after : ends_before r run.0 ≡ false = (let high = ltb-false (r.1 + 1) s.0 reached in le-ltb (r.1 + 1) run.0 (omega arith)) in
    rw (after, behind) refl

-- the runs before the place, and what the span makes of the rest, are the runs with the span
pub placed : (s run : ℕ × ℕ) (runs : List (ℕ × ℕ)) (first end : ℕ) → IsPartitionPoint (λ r. ends_before r s.0 ≡ true) (λ r. ends_before r s.0 ≡ false) runs first → first ≤ length runs
    → inserted s (drop first runs) ≡ run ∷ drop end runs → inserted s runs ≡ take first runs ++ (run ∷ drop end runs)
placed s run runs first end point within joins = inserted_behind s runs first point.0 within ∙ ap (λ rest. take first runs ++ rest) joins

-- a run and a span directly behind it are one run
joined_behind : (s r : ℕ × ℕ) → s.0 ≤ s.1 → r.0 ≤ r.1 → r.1 + 1 ≡ s.0 → inserted s (r ∷ []) ≡ (r.0, s.1) ∷ []
joined_behind s r order begins next =
    let reached : ends_before r s.0 ≡ false = le-ltb (r.1 + 1) s.0 (omega arith) in
    let touching : ends_before s r.0 ≡ false = le-ltb (s.1 + 1) r.0 (omega arith) in
    let low : min s.0 r.0 ≡ r.0 = omega arith in
    let high : max s.1 r.1 ≡ s.1 = omega arith in
    rw (reached, touching, low, high) refl

-- the last run stands alone behind those before it
last_alone : (runs : List (ℕ × ℕ)) (last : ℕ × ℕ) → slice_get runs (length runs - 1) ≡ Some last → drop (length runs - 1) runs ≡ last ∷ []
last_alone runs last at =
    let within = slice_get_within runs (length runs - 1) last at in
    drop_more runs (length runs - 1) last within
    ∙ rw (get_or_from_slice_get runs (length runs - 1) last last at, drop_all (length runs - 1 + 1) runs (omega (arith, within))) refl

-- a span directly behind the last run makes that run longer
inserted_next : (s last : ℕ × ℕ) (runs : List (ℕ × ℕ)) → s.0 ≤ s.1 → AreApart runs → slice_get runs (length runs - 1) ≡ Some last → last.1 + 1 ≡ s.0
    → inserted s runs ≡ slice_set runs (length runs - 1) (last.0, s.1)
inserted_next s last runs order apart at next =
    let i = length runs - 1 in
    let run : ℕ × ℕ = (last.0, s.1) in
    let within = slice_get_within runs i last at in
    let begins : last.0 ≤ last.1 = rw (get_or_from_slice_get runs i last last at) at (order_at runs i last apart within) in
    let point = all_before_last runs last s.0 apart at (le-ltb (last.1 + 1) s.0 (omega arith)) (omega arith) in
    let none : drop (i + 1) runs ≡ [] = drop_all (i + 1) runs (omega (arith, within)) in
    let joins : inserted s (drop i runs) ≡ run ∷ drop (i + 1) runs = rw (last_alone runs last at, none) (joined_behind s last order begins next) in
    placed s run runs i (i + 1) point (omega (arith, within)) joins
    ∙ sym (sym (take-append-drop i (slice_set runs i run)) ∙ rw (take-set runs i run, drop-set runs i run within) refl)

-- the same of the run that is found for the last one to become
pub inserted_last : (s run : ℕ × ℕ) (runs : List (ℕ × ℕ)) → s.0 ≤ s.1 → AreApart runs → lengthened s (slice_get runs (length runs - 1)) ≡ Some run
    → inserted s runs ≡ slice_set runs (length runs - 1) run
inserted_last s run runs order apart found =
    elim ((slice_get_cases runs (length runs - 1)).1) [
      | inl some ↦ (let last = some.0 in
          let at = some.2 in
          let becomes : lengthened s (Some last) ≡ Some run = rw at at found in
          elim (cases_Bool (nat_eq (last.1 + 1) s.0)) [
            | inl next ↦ (let same : (last.0, s.1) ≡ run = same_Some (last.0, s.1) run (rw next at becomes) in
                rw (← same) (inserted_next s last runs order apart at (eqb-true (last.1 + 1) s.0 next)))
            | inr elsewhere ↦ (let wrong : None ≡ Some run = rw elsewhere at becomes in cc)
          ])
      | inr none ↦ (let wrong : None ≡ Some run = rw none.1 at found in cc)
    ]

pub apart_after : {U E : Type 0} (r : Result U E) (s : ℕ × ℕ) (old new : List (ℕ × ℕ)) → s.0 ≤ s.1 → OnOk r (new ≡ inserted s old) → OnErr r (new ≡ old) → AreApart old → AreApart new
apart_after (Ok u) s old new order ok err apart = rw ok (apart_inserted s old order apart)
apart_after (Err e) s old new order ok err apart = rw err apart

pub names_after : {U E : Type 0} (r : Result U E) (s : ℕ × ℕ) (old new : List (ℕ × ℕ)) → s.0 ≤ s.1 → OnOk r (new ≡ inserted s old) → AreApart old → OnOk r ((n : ℕ) → is_named new n ≡ is_named (s ∷ old) n)
names_after (Ok u) s old new order ok apart = λ n. rw ok (names_inserted s old n order apart)
names_after (Err e) s old new order ok apart = tt

-- ---- an element that is read by its place

pub read_at : {X : Type 0} (xs : List X) (i : ℕ) (o : Option (Bor X)) → is_some o ≡ nat_lt i (length xs) → IfSome o (λ x. x.now ≡ get_or xs i x.now) → option_copied o ≡ slice_get xs i
read_at xs i None is at = sym (slice_get_past xs i (ltb-false i (length xs) (sym is)))
read_at xs i (Some x) is at = ap Some at ∙ sym (slice_get-get_or xs i x.now (ltb-true i (length xs) (sym is)))

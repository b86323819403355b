-- Runs without one number.
use Rattle.std.proofs.Common.{◌≡◌, ◌∙◌, ℕ, zero, suc, ◌+◌, ◌-◌, ◌≤◌, ◌<◌, Bool, true, false, ◌&&◌, ◌||◌, not, List, [], ◌∷◌, ◌++◌, length, get_or, set, take, drop, slice_get, Option, Some, None, option_to_list, refl, ap, arith, inl, inr, nat_le, nat_lt, Result, Ok, Err, OnOk, OnErr}
use Rattle.std.specs.Prelude.{if◌then◌else◌, ◌==◌}
use Rattle.std.specs.List.{AllByRecursion, insert}
use Rattle.std.proofs.lemmas.Bool.Decides.{nat_tests}
use Rattle.std.proofs.lemmas.Bool.{cases_Bool, ltb-true, ltb-false, le-ltb, lt-ltb, eqb-true}
use Rattle.std.proofs.lemmas.Option.{slice_get_within, get_or_from_slice_get}
use Rattle.qa_base.specs.machine.Numbers.{is_in}
use Rattle.qa_base.specs.values.Events.{is_named}
use Rattle.qa_packet_numbers.specs.Missing.{runs_of, unnamed}
use Rattle.qa_packet_numbers.specs.Runs.{AreApart, part_above, part_below, removed}
use Rattle.qa_packet_numbers.proofs.Lacking.{named_both, named_is}
use Rattle.qa_packet_numbers.proofs.Sets.{above, further, not_above}

-- ---- which numbers they have

named_below : (n : ℕ) (run : ℕ × ℕ) (m : ℕ) → is_named (option_to_list (part_below n run)) m ≡ (nat_le run.0 m && nat_lt m n)
named_below n run m =
    elim (cases_Bool (nat_lt run.0 n)) [
      | inl less ↦ (let low = ltb-true run.0 n less in rw less (grind (arith, nat_tests)))
      | inr most ↦ (let high = ltb-false run.0 n most in rw most (grind (arith, nat_tests)))
    ]

named_above : (n : ℕ) (run : ℕ × ℕ) (m : ℕ) → is_named (option_to_list (part_above n run)) m ≡ (nat_lt n m && nat_le m run.1)
named_above n run m =
    elim (cases_Bool (nat_lt n run.1)) [
      | inl less ↦ (let low = ltb-true n run.1 less in rw less (grind (arith, nat_tests)))
      | inr most ↦ (let high = ltb-false n run.1 most in rw most (grind (arith, nat_tests)))
    ]

-- a run that is cut at one of its numbers, before runs that have it not
cut_here : (lo hi n m : ℕ) (later : Bool) → lo ≤ n → n ≤ hi → (later ≡ true → hi < m)
    → ((nat_le lo m && nat_lt m n) || ((nat_lt n m && nat_le m hi) || later)) ≡ (((nat_le lo m && nat_le m hi) || later) && not (m == n))
cut_here lo hi n m true low high behind = (let past = behind refl in grind (arith, nat_tests))
cut_here lo hi n m false low high behind = grind (arith, nat_tests)

-- a number that is behind all
keeps : (has : Bool) (m n : ℕ) → (m ≡ n → has ≡ false) → has ≡ (has && not (m == n))
keeps has m n other =
    elim (cases_Bool (m == n)) [
      | inl same ↦ (let e = eqb-true m n same in rw (other e) refl)
      | inr differs ↦ rw differs (elim has as (λ b. b ≡ (b && true)) [ true ↦ refl | false ↦ refl ])
    ]

past_run : (lo hi n m : ℕ) (later : Bool) → hi < n → ((nat_le lo m && nat_le m hi) || (later && not (m == n))) ≡ (((nat_le lo m && nat_le m hi) || later) && not (m == n))
past_run lo hi n m true past = grind (arith, nat_tests)
past_run lo hi n m false past = grind (arith, nat_tests)

-- they have the others, and not this one
pub names_removed : (n : ℕ) (runs : List (ℕ × ℕ)) (m : ℕ) → AreApart runs → is_named (removed n runs) m ≡ (is_named runs m && not (m == n))
names_removed n [] m apart = refl
names_removed n (r ∷ rs) m apart =
    elim (cases_Bool (nat_lt r.1 n)) [
      | inl past ↦ (let low = ltb-true r.1 n past in
          rw (past, names_removed n rs m apart.2) (past_run r.0 r.1 n m (is_named rs m) low))
      | inr reached ↦ elim (cases_Bool (nat_lt n r.0)) [
        | inl before ↦ (let low = ltb-true n r.0 before in
            rw (reached, before) (keeps (is_named (r ∷ rs) m) m n (λ e. rw (not_above r.1 rs m apart.1 (omega (arith, e, low, apart.0))) (grind (arith, nat_tests)))))
        | inr here ↦ (let low = ltb-false n r.0 here in
            let high = ltb-false r.1 n reached in
            rw (reached, here, named_both (option_to_list (part_below n r)) (option_to_list (part_above n r) ++ rs) m, named_both (option_to_list (part_above n r)) rs m, named_below n r m, named_above n r m)
            (cut_here r.0 r.1 n m (is_named rs m) low high (λ later. let far = above r.1 rs m apart.1 later in omega arith)))
      ]
    ]

-- ---- they stay apart

far_removed : (b n : ℕ) (runs : List (ℕ × ℕ)) → AreApart runs → AllByRecursion (λ later. b + 1 < later.0) runs → AllByRecursion (λ later. b + 1 < later.0) (removed n runs)
far_removed b n [] apart all = tt
far_removed b n (r ∷ rs) apart all =
    elim (cases_Bool (nat_lt r.1 n)) [
      | inl past ↦ rw past (all.0, far_removed b n rs apart.2 all.1)
      | inr reached ↦ elim (cases_Bool (nat_lt n r.0)) [
        | inl before ↦ rw (reached, before) all
        | inr here ↦ (let low = ltb-false n r.0 here in
            elim (cases_Bool (nat_lt r.0 n)) [
              | inl more ↦ elim (cases_Bool (nat_lt n r.1)) [
                | inl less ↦ rw (reached, here, more, less) (all.0, (omega (arith, low, all.0), all.1))
                | inr last ↦ rw (reached, here, more, last) all
              ]
              | inr first ↦ elim (cases_Bool (nat_lt n r.1)) [
                | inl less ↦ rw (reached, here, first, less) (omega (arith, low, all.0), all.1)
                | inr last ↦ rw (reached, here, first, last) all.1
              ]
            ])
      ]
    ]

pub apart_removed : (n : ℕ) (runs : List (ℕ × ℕ)) → AreApart runs → AreApart (removed n runs)
apart_removed n [] apart = tt
apart_removed n (r ∷ rs) apart =
    elim (cases_Bool (nat_lt r.1 n)) [
      | inl past ↦ rw past (apart.0, far_removed r.1 n rs apart.2 apart.1, apart_removed n rs apart.2)
      | inr reached ↦ elim (cases_Bool (nat_lt n r.0)) [
        | inl before ↦ rw (reached, before) apart
        | inr here ↦ (let low = ltb-false n r.0 here in
            let high = ltb-false r.1 n reached in
            elim (cases_Bool (nat_lt r.0 n)) [
              | inl more ↦ (let begins = ltb-true r.0 n more in
                  elim (cases_Bool (nat_lt n r.1)) [
                    | inl less ↦ (let ends = ltb-true n r.1 less in
                        rw (reached, here, more, less) (omega arith, (omega arith, further (n - 1) r.1 rs (omega arith) apart.1), (omega arith, apart.1, apart.2)))
                    | inr last ↦ rw (reached, here, more, last) (omega arith, further (n - 1) r.1 rs (omega arith) apart.1, apart.2)
                  ])
              | inr first ↦ elim (cases_Bool (nat_lt n r.1)) [
                | inl less ↦ (let ends = ltb-true n r.1 less in rw (reached, here, first, less) (omega arith, apart.1, apart.2))
                | inr last ↦ rw (reached, here, first, last) apart.2
              ]
            ])
      ]
    ]

-- ---- where it is

at_place : (n : ℕ) (runs : List (ℕ × ℕ)) (i : ℕ) (run : ℕ × ℕ) → ((k : ℕ) (d : ℕ × ℕ) → 0 ≤ k → k < i → nat_lt (get_or runs k d).1 n ≡ true)
    → slice_get runs i ≡ Some run → run.0 ≤ n → n ≤ run.1
    → removed n runs ≡ take i runs ++ (option_to_list (part_below n run) ++ (option_to_list (part_above n run) ++ drop (suc i) runs))
at_place n [] i run before at low high = cc
at_place n (r ∷ rs) zero run before at low high =
    let same : r ≡ run = (let e : Some r ≡ Some run = at in cc) in
    rw (same, le-ltb run.1 n high, le-ltb n run.0 low) refl
at_place n (r ∷ rs) (suc i) run before at low high =
    rw (before 0 r (omega arith) (omega arith), at_place n rs i run (λ k d from less. before (suc k) d (omega arith) (omega arith)) at low high) refl

-- the run at this place has it, and those before end below it
pub removed_at : (n : ℕ) (runs : List (ℕ × ℕ)) (i : ℕ) (run : ℕ × ℕ) → ((k : ℕ) (d : ℕ × ℕ) → 0 ≤ k → k < i → nat_lt (get_or runs k d).1 n ≡ true)
    → slice_get runs i ≡ Some run → run.0 ≤ n → n ≤ run.1
    → removed n runs ≡ take i runs ++ (option_to_list (part_below n run) ++ (option_to_list (part_above n run) ++ drop (i + 1) runs))
removed_at n runs i run before at low high =
    let next : suc i ≡ i + 1 = omega arith in
    at_place n runs i run before at low high
    ∙ ap (λ k. take i runs ++ (option_to_list (part_below n run) ++ (option_to_list (part_above n run) ++ drop k runs))) next

-- no run has it
pub removed_none : (n : ℕ) (runs : List (ℕ × ℕ)) (i : ℕ) → ((k : ℕ) (d : ℕ × ℕ) → 0 ≤ k → k < i → nat_lt (get_or runs k d).1 n ≡ true)
    → slice_get runs i ≡ None → removed n runs ≡ runs
removed_none n [] i before at = refl
removed_none n (r ∷ rs) zero before at = cc
removed_none n (r ∷ rs) (suc i) before at =
    rw (before 0 r (omega arith) (omega arith), removed_none n rs i (λ k d from less. before (suc k) d (omega arith) (omega arith)) at) refl

-- the first run that does not end below it begins above it
pub removed_between : (n : ℕ) (runs : List (ℕ × ℕ)) (i : ℕ) (run : ℕ × ℕ) → ((k : ℕ) (d : ℕ × ℕ) → 0 ≤ k → k < i → nat_lt (get_or runs k d).1 n ≡ true)
    → slice_get runs i ≡ Some run → run.0 ≤ run.1 → n < run.0 → removed n runs ≡ runs
removed_between n [] i run before at order low = cc
removed_between n (r ∷ rs) zero run before at order low =
    let same : r ≡ run = (let e : Some r ≡ Some run = at in cc) in
    rw (same, le-ltb run.1 n (omega arith), lt-ltb n run.0 low) refl
removed_between n (r ∷ rs) (suc i) run before at order low =
    rw (before 0 r (omega arith) (omega arith), removed_between n rs i run (λ k d from less. before (suc k) d (omega arith) (omega arith)) at order low) refl

-- ---- after a call

pub apart_after_less : {U E : Type 0} (r : Result U E) (n : ℕ) (old new : List (ℕ × ℕ)) → OnOk r (new ≡ removed n old) → OnErr r (new ≡ old) → AreApart old → AreApart new
apart_after_less (Ok u) n old new ok err apart = rw ok (apart_removed n old apart)
apart_after_less (Err e) n old new ok err apart = rw err apart

pub names_after_less : {U E : Type 0} (r : Result U E) (n : ℕ) (old new : List (ℕ × ℕ)) → OnOk r (new ≡ removed n old) → AreApart old
    → OnOk r ((m : ℕ) → is_named new m ≡ (is_named old m && not (m == n)))
names_after_less (Ok u) n old new ok apart = λ m. rw ok (names_removed n old m apart)
names_after_less (Err e) n old new ok apart = tt

-- ---- sets of several numbers

pub all_stay : (b : Bool) → b ≡ (b && true)
all_stay true = refl
all_stay false = refl

-- the filter keeps the number or leaves it
kept_if : (m n : ℕ) (rest : List ℕ) (here named of_n : Bool) → (m ≡ n → named ≡ of_n) → is_in rest n ≡ (here && not of_n)
    → is_in (if not named then m ∷ rest else rest) n ≡ (((m == n) || here) && not of_n)
kept_if m n rest here true true same more = rw more (elim here as (λ b. (b && false) ≡ (((m == n) || b) && false)) [ true ↦ grind (arith, nat_tests) | false ↦ grind (arith, nat_tests) ])
kept_if m n rest here false false same more = rw more (elim here as (λ b. ((m == n) || (b && true)) ≡ (((m == n) || b) && true)) [ true ↦ grind (arith, nat_tests) | false ↦ grind (arith, nat_tests) ])
kept_if m n rest here true false same more =
    elim (cases_Bool (m == n)) [
      | inl e ↦ (let never = same (eqb-true m n e) in cc)
      | inr differs ↦ rw (more, differs) refl
    ]
kept_if m n rest here false true same more =
    elim (cases_Bool (m == n)) [
      | inl e ↦ (let never = same (eqb-true m n e) in cc)
      | inr differs ↦ rw (more, differs) (elim here as (λ b. (false || (b && false)) ≡ ((false || b) && false)) [ true ↦ refl | false ↦ refl ])
    ]

in_unnamed : (ranges : List (ℕ × ℕ)) (ns : List ℕ) (n : ℕ) → is_in (unnamed ranges ns) n ≡ (is_in ns n && not (is_named ranges n))
in_unnamed ranges [] n = refl
in_unnamed ranges (m ∷ ns) n = kept_if m n (unnamed ranges ns) (is_in ns n) (is_named ranges m) (is_named ranges n) (λ e. ap (is_named ranges) e) (in_unnamed ranges ns n)

pub names_unnamed : (ranges : List (ℕ × ℕ)) (ns : List ℕ) (n : ℕ) → is_named (runs_of (unnamed ranges ns)) n ≡ (is_in ns n && not (is_named ranges n))
names_unnamed ranges ns n = named_is (unnamed ranges ns) n ∙ in_unnamed ranges ns n

-- ---- a run that is cut in its list

set_at : (xs : List (ℕ × ℕ)) (i : ℕ) (y : ℕ × ℕ) → i < length xs → set xs i y ≡ take i xs ++ (y ∷ drop (suc i) xs)
set_at [] i y within = absurd (omega arith)
set_at (x ∷ xs) zero y within = refl
set_at (x ∷ xs) (suc i) y within = rw (set_at xs i y (omega arith)) refl

set_behind : (xs : List (ℕ × ℕ)) (i : ℕ) (x y : ℕ × ℕ) → i < length xs → set (insert xs i x) (suc i) y ≡ take i xs ++ (x ∷ (y ∷ drop (suc i) xs))
set_behind [] i x y within = absurd (omega arith)
set_behind (z ∷ xs) zero x y within = refl
set_behind (z ∷ xs) (suc i) x y within = rw (set_behind xs i x y (omega arith)) refl

-- what stands in its place, where something is left below the number and above it
pub cut_both : (xs new : List (ℕ × ℕ)) (i : ℕ) (low high : Option (ℕ × ℕ)) (below above : ℕ × ℕ) → low ≡ Some below → high ≡ Some above → new ≡ insert xs i below → i < length xs
    → set new (i + 1) above ≡ take i xs ++ (option_to_list low ++ (option_to_list high ++ drop (i + 1) xs))
cut_both xs new i low high below above is_low is_high is within =
    let next : i + 1 ≡ suc i = omega arith in
    rw (next, is, is_low, is_high) (set_behind xs i below above within)

-- below it alone
pub cut_first : (xs : List (ℕ × ℕ)) (i : ℕ) (low high : Option (ℕ × ℕ)) (part : ℕ × ℕ) → low ≡ Some part → high ≡ None → i < length xs
    → set xs i part ≡ take i xs ++ (option_to_list low ++ (option_to_list high ++ drop (i + 1) xs))
cut_first xs i low high part is_low is_high within =
    let next : i + 1 ≡ suc i = omega arith in
    rw (next, is_low, is_high) (set_at xs i part within)

-- above it alone
pub cut_last : (xs : List (ℕ × ℕ)) (i : ℕ) (low high : Option (ℕ × ℕ)) (part : ℕ × ℕ) → low ≡ None → high ≡ Some part → i < length xs
    → set xs i part ≡ take i xs ++ (option_to_list low ++ (option_to_list high ++ drop (i + 1) xs))
cut_last xs i low high part is_low is_high within =
    let next : i + 1 ≡ suc i = omega arith in
    rw (next, is_low, is_high) (set_at xs i part within)

-- the first run that does not end below a number reaches it
pub reaches : (n : ℕ) (runs : List (ℕ × ℕ)) (i : ℕ) (run : ℕ × ℕ) → ((k : ℕ) (d : ℕ × ℕ) → i ≤ k → k < length runs → nat_lt (get_or runs k d).1 n ≡ false) → slice_get runs i ≡ Some run → n ≤ run.1
reaches n runs i run from at =
    let within = slice_get_within runs i run at in
    let here : get_or runs i run ≡ run = get_or_from_slice_get runs i run run at in
    ltb-false run.1 n (rw here at (from i run (omega arith) within))

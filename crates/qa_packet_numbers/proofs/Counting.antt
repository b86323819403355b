-- How many numbers of a set lie above one and up to another.
use Rattle.std.proofs.Common.{◌≡◌, ℕ, zero, suc, ◌+◌, ◌-◌, ◌≤◌, ◌<◌, Bool, true, false, ◌&&◌, min, List, [], ◌∷◌, length, get_or, take, drop, refl, sym, ◌∙◌, ap, arith, subst, inl, inr, nat_eq, nat_le, nat_lt}
use Rattle.std.specs.List.{AllWithin}
use Rattle.std.specs.Prelude.{if◌then◌else◌}
use Rattle.std.proofs.lemmas.Bool.{cases_Bool, cases_lt, eqb-true}
use Rattle.std.proofs.lemmas.Bool.Decides.{nat_tests}
use Rattle.std.proofs.lemmas.List.Sums.{sum_by-cons, sum_by-take-drop, sum_by_more, sum_by_more_le}
use Rattle.std.proofs.lemmas.List.Sorted.{IsPartitionedBy-leb}
use Rattle.std.specs.List.Sorted.{IsNonDecreasingBy, IsPartitionedBy}
use Rattle.qa_base.specs.machine.Numbers.{Names, is_in}
use Rattle.qa_base.specs.values.Events.{is_named}
use Rattle.qa_packet_numbers.specs.Counting.{count_in, size_in, total_in}
use Rattle.qa_packet_numbers.specs.Runs.{AreApart, AreDistinct}
use Rattle.qa_packet_numbers.proofs.Counts.{named_is_in}
use Rattle.qa_packet_numbers.proofs.Sets.{apart_at, later_at, not_above, order_at}

abbrev pub one_if : Bool → ℕ
one_if b = if b then 1 else 0

one_small : (b : Bool) → one_if b ≤ 1
one_small true = omega arith
one_small false = omega arith

-- ---- one number less is left out

pub count_cons : (n top m : ℕ) (ms : List ℕ) → count_in (m ∷ ms) n top ≡ one_if (nat_lt n m && nat_le m top) + count_in ms n top
count_cons n top m ms = sum_by-cons (λ m. one_if (nat_lt n m && nat_le m top)) m ms

same_number_in : (n m top : ℕ) → n + 1 ≤ top → m ≡ n + 1 → one_if (nat_lt n m && nat_le m top) ≡ one_if (nat_lt (n + 1) m && nat_le m top) + 1
same_number_in n m top low is = grind (arith, nat_tests, is)

other_number_in : (n m top : ℕ) → nat_eq m (n + 1) ≡ false → one_if (nat_lt n m && nat_le m top) ≡ one_if (nat_lt (n + 1) m && nat_le m top)
other_number_in n m top other = grind (arith, nat_tests, other)

count_step : (numbers : List ℕ) (n top : ℕ) → AreDistinct numbers → n + 1 ≤ top → count_in numbers n top ≡ count_in numbers (n + 1) top + one_if (is_in numbers (n + 1))
count_step [] n top distinct low = refl
count_step (m ∷ ms) n top distinct low =
    let rest = count_step ms n top distinct.1 low in
    let a = count_cons n top m ms in
    let b = count_cons (n + 1) top m ms in
    elim (cases_Bool (nat_eq m (n + 1))) [
      | inl same ↦ (let e : m ≡ n + 1 = eqb-true m (n + 1) same in
          let absent : is_in ms (n + 1) ≡ false = rw e at distinct.0 in
          let here = same_number_in n m top low e in
          let none : one_if (is_in ms (n + 1)) ≡ 0 = rw absent refl in
          let is : one_if (is_in (m ∷ ms) (n + 1)) ≡ 1 = rw same refl in
          omega (arith, rest, a, b, here, none, is))
      | inr other ↦ (let here = other_number_in n m top other in
          let is : one_if (is_in (m ∷ ms) (n + 1)) ≡ one_if (is_in ms (n + 1)) = rw other refl in
          omega (arith, rest, a, b, here, is))
    ]

-- the same of runs
total_cons : (n top : ℕ) (r : ℕ × ℕ) (rs : List (ℕ × ℕ)) → total_in n top (r ∷ rs) ≡ size_in n top r + total_in n top rs
total_cons n top r rs = sum_by-cons (size_in n top) r rs

size_here : (n top a b : ℕ) → n + 1 ≤ top → (nat_le a (n + 1) && nat_le (n + 1) b) ≡ true → size_in n top (a, b) ≡ size_in (n + 1) top (a, b) + 1
size_here n top a b low is = grind (arith, nat_tests, is)

size_elsewhere : (n top a b : ℕ) → a ≤ b → (nat_le a (n + 1) && nat_le (n + 1) b) ≡ false → size_in n top (a, b) ≡ size_in (n + 1) top (a, b)
size_elsewhere n top a b order is = grind (arith, nat_tests, is)

ends_after : (n a b : ℕ) → (nat_le a (n + 1) && nat_le (n + 1) b) ≡ true → n + 1 ≤ b + 1
ends_after n a b is = grind (arith, nat_tests, is)

total_step : (runs : List (ℕ × ℕ)) (n top : ℕ) → AreApart runs → n + 1 ≤ top → total_in n top runs ≡ total_in (n + 1) top runs + one_if (is_named runs (n + 1))
total_step [] n top apart low = refl
total_step (r ∷ rs) n top apart low =
    let rest = total_step rs n top apart.2 low in
    let a = total_cons n top r rs in
    let b = total_cons (n + 1) top r rs in
    elim (cases_Bool (nat_le r.0 (n + 1) && nat_le (n + 1) r.1)) [
      | inl inside ↦ (let here = size_here n top r.0 r.1 low inside in
          let absent : is_named rs (n + 1) ≡ false = not_above r.1 rs (n + 1) apart.1 (ends_after n r.0 r.1 inside) in
          let none : one_if (is_named rs (n + 1)) ≡ 0 = rw absent refl in
          let is : one_if (is_named (r ∷ rs) (n + 1)) ≡ 1 = rw inside refl in
          omega (arith, rest, a, b, here, none, is))
      | inr outside ↦ (let here = size_elsewhere n top r.0 r.1 apart.0 outside in
          let is : one_if (is_named (r ∷ rs) (n + 1)) ≡ one_if (is_named rs (n + 1)) = rw outside refl in
          omega (arith, rest, a, b, here, is))
    ]

-- ---- none lie above the greatest

none_in : (n m top : ℕ) → top ≤ n → one_if (nat_lt n m && nat_le m top) ≡ 0
none_in n m top high = grind (arith, nat_tests)

count_none : (numbers : List ℕ) (n top : ℕ) → top ≤ n → count_in numbers n top ≡ 0
count_none [] n top high = refl
count_none (m ∷ ms) n top high = omega (arith, count_cons n top m ms, none_in n m top high, count_none ms n top high)

size_none : (n top a b : ℕ) → top ≤ n → size_in n top (a, b) ≡ 0
size_none n top a b high = grind (arith, nat_tests)

total_none : (runs : List (ℕ × ℕ)) (n top : ℕ) → top ≤ n → total_in n top runs ≡ 0
total_none [] n top high = refl
total_none (r ∷ rs) n top high = omega (arith, total_cons n top r rs, size_none n top r.0 r.1 high, total_none rs n top high)

-- ---- the runs have as many as the numbers

counted_from : (k : ℕ) (runs : List (ℕ × ℕ)) (numbers : List ℕ) (n top : ℕ) → n + k ≡ top → AreApart runs → Names runs numbers → AreDistinct numbers → count_in numbers n top ≡ total_in n top runs
counted_from zero runs numbers n top is apart names distinct = count_none numbers n top (omega (arith, is)) ∙ sym (total_none runs n top (omega (arith, is)))
counted_from (suc k) runs numbers n top is apart names distinct =
    let low : n + 1 ≤ top = omega (arith, is) in
    let a = count_step numbers n top distinct low in
    let b = total_step runs n top apart low in
    let rest = counted_from k runs numbers (n + 1) top (omega (arith, is)) apart names distinct in
    let same : one_if (is_named runs (n + 1)) ≡ one_if (is_in numbers (n + 1)) = ap one_if (named_is_in runs numbers (n + 1) names) in
    omega (arith, a, b, rest, same)

pub counted_in : (runs : List (ℕ × ℕ)) (numbers : List ℕ) (n top : ℕ) → AreApart runs → Names runs numbers → AreDistinct numbers → count_in numbers n top ≡ total_in n top runs
counted_in runs numbers n top apart names distinct =
    elim (cases_lt n top) [
      | inl less ↦ counted_from (top - n) runs numbers n top (omega (arith, less)) apart names distinct
      | inr past ↦ count_none numbers n top (omega (arith, past)) ∙ sym (total_none runs n top (omega (arith, past)))
    ]

-- ---- a walk down the runs

-- runs that end below the number have none above it
size_below : (n top a b : ℕ) → b ≤ n → size_in n top (a, b) ≡ 0
size_below n top a b low = grind (arith, nat_tests)

lower_none : (runs : List (ℕ × ℕ)) (i : ℕ) (d : ℕ × ℕ) (n top : ℕ) → AreApart runs → i < length runs → (get_or runs i d).0 ≤ n → total_in n top (take i runs) ≡ 0
lower_none [] i d n top apart within low = absurd (omega arith)
lower_none (r ∷ rs) zero d n top apart within low = refl
lower_none (r ∷ rs) (suc i) d n top apart within low =
    let later = later_at r.1 rs i d apart.1 (omega arith) in
    omega (arith, total_cons n top r (take i rs), size_below n top r.0 r.1 (omega (arith, later, low)), lower_none rs i d n top apart.2 (omega arith) low)

-- one run whose numbers are too few
passed_run : (n top a b left below : ℕ) → (a ≤ n → below ≡ 0) → (min b top + 1) - a < left → nat_le left (below + size_in n top (a, b)) ≡ nat_le (left - ((min b top + 1) - a)) below
passed_run n top a b left below none few =
    elim (cases_lt n a) [
      | inl under ↦ grind (arith, nat_tests)
      | inr over ↦ (let zero_below = none over in grind (arith, nat_tests, zero_below))
    ]

-- one in which they come to an end
last_run : (n top a b left below : ℕ) → (a ≤ n → below ≡ 0) → 1 ≤ left → left ≤ (min b top + 1) - a → nat_lt n ((min b top + 1) - left) ≡ nat_le left (below + size_in n top (a, b))
last_run n top a b left below none some enough =
    elim (cases_lt n a) [
      | inl under ↦ grind (arith, nat_tests)
      | inr over ↦ (let zero_below = none over in grind (arith, nat_tests, zero_below))
    ]

total_more : (runs : List (ℕ × ℕ)) (i : ℕ) (d : ℕ × ℕ) (n top : ℕ) → i < length runs → total_in n top (take (i + 1) runs) ≡ total_in n top (take i runs) + size_in n top (get_or runs i d)
total_more runs i d n top within = sum_by_more (size_in n top) runs i d within

pub run_passed : (runs : List (ℕ × ℕ)) (i : ℕ) (d : ℕ × ℕ) (n top left : ℕ) → AreApart runs → i < length runs → (min (get_or runs i d).1 top + 1) - (get_or runs i d).0 < left
    → nat_le left (total_in n top (take (i + 1) runs)) ≡ nat_le (left - ((min (get_or runs i d).1 top + 1) - (get_or runs i d).0)) (total_in n top (take i runs))
run_passed runs i d n top left apart within few =
    ap (nat_le left) (total_more runs i d n top within)
    ∙ passed_run n top (get_or runs i d).0 (get_or runs i d).1 left (total_in n top (take i runs)) (λ low. lower_none runs i d n top apart within low) few

pub run_ends : (runs : List (ℕ × ℕ)) (i : ℕ) (d : ℕ × ℕ) (n top left : ℕ) → AreApart runs → i < length runs → 1 ≤ left → left ≤ (min (get_or runs i d).1 top + 1) - (get_or runs i d).0
    → nat_lt n ((min (get_or runs i d).1 top + 1) - left) ≡ nat_le left (total_in n top (take (i + 1) runs))
run_ends runs i d n top left apart within some enough =
    last_run n top (get_or runs i d).0 (get_or runs i d).1 left (total_in n top (take i runs)) (λ low. lower_none runs i d n top apart within low) some enough
    ∙ sym (ap (nat_le left) (total_more runs i d n top within))

-- ---- where the walk begins

begins_past : (n top a b : ℕ) → nat_le a top ≡ false → size_in n top (a, b) ≡ 0
begins_past n top a b past = grind (arith, nat_tests, past)

past_none : (runs : List (ℕ × ℕ)) (i : ℕ) (n top : ℕ) → AllWithin (λ run. nat_le run.0 top ≡ false) runs i (length runs) → total_in n top (drop i runs) ≡ 0
past_none [] zero n top past = refl
past_none [] (suc i) n top past = refl
past_none (r ∷ rs) zero n top past =
    omega (arith, total_cons n top r rs, begins_past n top r.0 r.1 (past 0 r (omega arith) (omega arith)), past_none rs zero n top (λ k d low within. past (suc k) d (omega arith) (omega (arith, within))))
past_none (r ∷ rs) (suc i) n top past = past_none rs i n top (λ k d low within. past (suc k) d (omega (arith, low)) (omega (arith, within)))

-- the runs behind those that do not begin above the number have none up to it
pub reached_all : (runs : List (ℕ × ℕ)) (i : ℕ) (n top : ℕ) → AllWithin (λ run. nat_le run.0 top ≡ false) runs i (length runs) → total_in n top runs ≡ total_in n top (take i runs)
reached_all runs i n top past = omega (arith, sum_by-take-drop (size_in n top) runs i, past_none runs i n top past)

-- a binary search may ask for the begins
begins_rise : (runs : List (ℕ × ℕ)) → AreApart runs → IsNonDecreasingBy (λ run. run.0) runs
begins_rise runs apart i j d order within =
    elim (cases_lt i j) [
      | inl less ↦ (let gap = apart_at runs i j d apart less within in let first = order_at runs i d apart (omega (arith, less, within)) in omega (arith, gap, first))
      | inr same ↦ (let e : i ≡ j = omega (arith, order, same) in rw e (omega arith))
    ]

pub parted_by_begins : (runs : List (ℕ × ℕ)) (number : ℕ) → AreApart runs → IsPartitionedBy (λ run. nat_le run.0 number) runs
parted_by_begins runs number apart = IsPartitionedBy-leb (λ run. run.0) runs number (begins_rise runs apart)

-- ---- a step of the walk, at the run before a place

place_before : (P : ℕ → Type 0) (at : ℕ) → 0 < at → P (at - 1 + 1) → P at
place_before P at some is = subst P (omega (arith, some)) is

pub passed_at : (runs : List (ℕ × ℕ)) (at : ℕ) (r : ℕ × ℕ) (n top left end size : ℕ) → AreApart runs → 0 < at → at ≤ length runs → r ≡ get_or runs (at - 1) r
    → end ≡ min r.1 top → size ≡ (end + 1) - r.0 → size < left
    → nat_le left (total_in n top (take at runs)) ≡ nat_le (left - size) (total_in n top (take (at - 1) runs))
passed_at runs at r n top left end size apart some within is end_is size_is few =
    let same : size ≡ (min (get_or runs (at - 1) r).1 top + 1) - (get_or runs (at - 1) r).0 = size_is ∙ (ap (λ e. (e + 1) - r.0) end_is ∙ ap (λ (q : ℕ × ℕ). (min q.1 top + 1) - q.0) is) in
    place_before (λ k. nat_le left (total_in n top (take k runs)) ≡ nat_le (left - size) (total_in n top (take (at - 1) runs))) at some
    (rw same (run_passed runs (at - 1) r n top left apart (omega (arith, some, within)) (rw same at few)))

pub ends_at : (runs : List (ℕ × ℕ)) (at : ℕ) (r : ℕ × ℕ) (n top left end size : ℕ) → AreApart runs → 0 < at → at ≤ length runs → r ≡ get_or runs (at - 1) r
    → end ≡ min r.1 top → size ≡ (end + 1) - r.0 → 1 ≤ left → left ≤ size
    → nat_lt n ((end + 1) - left) ≡ nat_le left (total_in n top (take at runs))
ends_at runs at r n top left end size apart some within is end_is size_is more enough =
    let top_is : end ≡ min (get_or runs (at - 1) r).1 top = end_is ∙ ap (λ (q : ℕ × ℕ). min q.1 top) is in
    let same : size ≡ (min (get_or runs (at - 1) r).1 top + 1) - (get_or runs (at - 1) r).0 = size_is ∙ (ap (λ e. (e + 1) - r.0) end_is ∙ ap (λ (q : ℕ × ℕ). (min q.1 top + 1) - q.0) is) in
    place_before (λ k. nat_lt n ((end + 1) - left) ≡ nat_le left (total_in n top (take k runs))) at some
    (rw top_is (run_ends runs (at - 1) r n top left apart (omega (arith, some, within)) more (rw same at enough)))

pub none_left : (left n : ℕ) → 1 ≤ left → nat_lt n 0 ≡ nat_le left 0
none_left left n some = grind (arith, nat_tests, some)

-- ---- no more than there are numbers between

small_from : (k : ℕ) (runs : List (ℕ × ℕ)) (n top : ℕ) → n + k ≡ top → AreApart runs → total_in n top runs ≤ k
small_from zero runs n top is apart = (let none = total_none runs n top (omega (arith, is)) in omega (arith, none))
small_from (suc k) runs n top is apart =
    let a = total_step runs n top apart (omega (arith, is)) in
    let rest = small_from k runs (n + 1) top (omega (arith, is)) apart in
    let one = one_small (is_named runs (n + 1)) in
    omega (arith, a, rest, one)

pub total_small : (runs : List (ℕ × ℕ)) (n top : ℕ) → AreApart runs → total_in n top runs ≤ top
total_small runs n top apart =
    elim (cases_lt n top) [
      | inl less ↦ (let few = small_from (top - n) runs n top (omega (arith, less)) apart in omega (arith, few))
      | inr past ↦ (let none = total_none runs n top past in omega (arith, none))
    ]

pub total_within : (runs : List (ℕ × ℕ)) (i : ℕ) (r : ℕ × ℕ) (n top : ℕ) → AreApart runs → i < length runs → r ≡ get_or runs i r → total_in n top (take i runs) + size_in n top r ≤ top
total_within runs i r n top apart within is =
    let some = sum_by_more_le (size_in n top) runs i r within in
    let same : size_in n top r ≡ size_in n top (get_or runs i r) = ap (size_in n top) is in
    let all = total_small runs n top apart in
    omega (arith, some, same, all)

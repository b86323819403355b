-- What the tests of ranges say of each number.
use Rattle.std.proofs.Common.{◌≡◌, ℕ, zero, suc, ◌+◌, ◌-◌, ◌≤◌, Bool, true, ◌&&◌, ◌||◌, not, List, [], ◌∷◌, refl, arith, inl, inr, ◌↔◌}
use Rattle.std.specs.List.{list_all}
use Rattle.std.specs.Prelude.{nat_le, nat_lt, nat_eq}
use Rattle.std.proofs.lemmas.Bool.{and_parts, and_from, or_cases, or_left, or_right, eqb-true, eq-eqb, le-leb, lt-ltb, leb-true, ltb-true, cases_Bool, not_from_false}
use Rattle.qa_base.specs.values.Events.{is_named}
use Rattle.qa_base.specs.machine.Numbers.{is_in, has_next, has_range, has_all, names_between, NamesBetween, NamesOnly, AreRanges}

-- ---- one range

all_at : (p : ℕ → Bool) (xs : List ℕ) (n : ℕ) → list_all p xs ≡ true → is_in xs n ≡ true → p n ≡ true
all_at p [] n all is = cc
all_at p (x ∷ xs) n all is =
    let parts = and_parts (p x) (list_all p xs) all in
    elim (or_cases (nat_eq x n) (is_in xs n) is) [ inl here ↦ rw (eqb-true x n here) at parts.0 | inr later ↦ all_at p xs n parts.1 later ]

goes_on : (numbers : List ℕ) (lo hi : ℕ) → has_range numbers (lo, hi) ≡ true → (k n : ℕ) → n ≡ lo + k → n ≤ hi → is_in numbers n ≡ true
goes_on numbers lo hi all zero n at within =
    let first : is_in numbers lo ≡ true = (and_parts (is_in numbers lo) (list_all (has_next numbers lo hi) numbers) all).0 in
    let here : n ≡ lo = omega arith in rw here first
goes_on numbers lo hi all (suc k) n at within =
    let m = lo + k in
    let before : is_in numbers m ≡ true = goes_on numbers lo hi all k m refl (omega arith) in
    let next : has_next numbers lo hi m ≡ true = all_at (has_next numbers lo hi) numbers m (and_parts (is_in numbers lo) (list_all (has_next numbers lo hi) numbers) all).1 before in
    let here : n ≡ m + 1 = omega arith in
    let inside : (nat_le lo m && nat_lt m hi) ≡ true = and_from (nat_le lo m) (nat_lt m hi) (le-leb lo m (omega arith)) (lt-ltb m hi (omega arith)) in
    let beside : (not true || is_in numbers (m + 1)) ≡ true = rw inside at next in
    rw here beside

-- a range without a gap has each of its numbers
range_has : (numbers : List ℕ) (range : ℕ × ℕ) → has_range numbers range ≡ true → (n : ℕ) → range.0 ≤ n → n ≤ range.1 → is_in numbers n ≡ true
range_has numbers range all n low high = goes_on numbers range.0 range.1 all (n - range.0) n (omega arith) high

all_from : (p : ℕ → Bool) → ((x : ℕ) → p x ≡ true) → (xs : List ℕ) → list_all p xs ≡ true
all_from p each [] = refl
all_from p each (x ∷ xs) = and_from (p x) (list_all p xs) (each x) (all_from p each xs)

-- a range each of whose numbers is there has no gap
range_is : (numbers : List ℕ) (range : ℕ × ℕ) → range.0 ≤ range.1 → ((n : ℕ) → range.0 ≤ n → n ≤ range.1 → is_in numbers n ≡ true) → has_range numbers range ≡ true
range_is numbers range order each =
    and_from (is_in numbers range.0) (list_all (has_next numbers range.0 range.1) numbers) (each range.0 (omega arith) order)
    (all_from (has_next numbers range.0 range.1) (λ m. elim (cases_Bool (nat_le range.0 m && nat_lt m range.1)) [
      | inl inside ↦ (let parts = and_parts (nat_le range.0 m) (nat_lt m range.1) inside in let low = leb-true range.0 m parts.0 in let high = ltb-true m range.1 parts.1 in
          or_right (not (nat_le range.0 m && nat_lt m range.1)) (is_in numbers (m + 1)) (each (m + 1) (omega arith) (omega arith)))
      | inr outside ↦ or_left (not (nat_le range.0 m && nat_lt m range.1)) (is_in numbers (m + 1)) (not_from_false (nat_le range.0 m && nat_lt m range.1) outside)
    ]) numbers)

-- ---- all ranges

pub has_all_names : (numbers : List ℕ) (ranges : List (ℕ × ℕ)) → has_all numbers ranges ≡ true → (n : ℕ) → is_named ranges n ≡ true → is_in numbers n ≡ true
has_all_names numbers [] all n named = cc
has_all_names numbers (range ∷ ranges) all n named =
    let parts = and_parts (has_range numbers range) (has_all numbers ranges) all in
    elim (or_cases (nat_le range.0 n && nat_le n range.1) (is_named ranges n) named) [
      | inl here ↦ (let bounds = and_parts (nat_le range.0 n) (nat_le n range.1) here in
          range_has numbers range parts.0 n (leb-true range.0 n bounds.0) (leb-true n range.1 bounds.1))
      | inr later ↦ has_all_names numbers ranges parts.1 n later
    ]

pub names_has_all : (numbers : List ℕ) (ranges : List (ℕ × ℕ)) → AreRanges ranges → ((n : ℕ) → is_named ranges n ≡ true → is_in numbers n ≡ true) → has_all numbers ranges ≡ true
names_has_all numbers [] order each = refl
names_has_all numbers (range ∷ ranges) order each =
    and_from (has_range numbers range) (has_all numbers ranges)
    (range_is numbers range order.0 (λ n low high. each n (or_left (nat_le range.0 n && nat_le n range.1) (is_named ranges n) (and_from (nat_le range.0 n) (nat_le n range.1) (le-leb range.0 n low) (le-leb n range.1 high)))))
    (names_has_all numbers ranges order.1 (λ n named. each n (or_right (nat_le range.0 n && nat_le n range.1) (is_named ranges n) named)))

-- ---- all of the least and none but the most

each_at : (p : ℕ → Bool) (xs : List ℕ) → ((n : ℕ) → is_in xs n ≡ true → p n ≡ true) → list_all p xs ≡ true
each_at p [] each = refl
each_at p (x ∷ xs) each =
    and_from (p x) (list_all p xs) (each x (or_left (nat_eq x x) (is_in xs x) (eq-eqb x x refl))) (each_at p xs (λ n is. each n (or_right (nat_eq x n) (is_in xs n) is)))

-- the test of an acknowledgment's ranges is what it stands for
pub has_all_is : (numbers : List ℕ) (ranges : List (ℕ × ℕ)) → AreRanges ranges → (has_all numbers ranges ≡ true) ↔ NamesOnly ranges numbers
has_all_is numbers ranges order = ((λ all. record { only = has_all_names numbers ranges all }), (λ names. names_has_all numbers ranges order names.only))

-- the test of a Lost line's ranges is what it stands for
pub names_between_is : (ranges : List (ℕ × ℕ)) (least most : List ℕ) → AreRanges ranges → (names_between ranges least most ≡ true) ↔ NamesBetween ranges least most
names_between_is ranges least most order = (
  (λ between. let parts = and_parts (has_all most ranges) (list_all (is_named ranges) least) between in
      record { only = has_all_names most ranges parts.0; each = λ n is. all_at (is_named ranges) least n parts.1 is }),
  (λ names. and_from (has_all most ranges) (list_all (is_named ranges) least) (names_has_all most ranges order names.only) (each_at (is_named ranges) least names.each)),
)

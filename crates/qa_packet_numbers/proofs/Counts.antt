-- How many runs a set has.
use Rattle.std.proofs.Common.{◌≡◌, ℕ, suc, ◌+◌, ◌≤◌, ◌<◌, Bool, true, false, ◌&&◌, ◌||◌, not, List, [], ◌∷◌, length, map, filter, refl, sym, ◌∙◌, ap, arith, inl, inr, nat_eq, nat_le}
use Rattle.std.specs.List.{AllByRecursion}
use Rattle.std.proofs.lemmas.Bool.{cases_Bool, cases_lt, and_left, and_right, or_left, or_parts, eqb-true, eq-eqb, ne_eqb, both_ways, false_from_ne_true}
use Rattle.std.proofs.lemmas.Bool.Decides.{nat_tests}
use Rattle.std.proofs.lemmas.List.{length-map}
use Rattle.std.proofs.lemmas.List.Sums.{length-filter}
use Rattle.qa_base.specs.machine.Numbers.{Names, is_in}
use Rattle.qa_base.specs.values.Events.{is_named}
use Rattle.qa_packet_numbers.specs.Runs.{AreApart, AreDistinct, run_count}
use Rattle.qa_packet_numbers.proofs.Sets.{not_above}

and_true : (b : Bool) → (b && true) ≡ b
and_true true = refl
and_true false = refl

-- ---- lists in which no number stands twice

is_in-filter : (p : ℕ → Bool) (ns : List ℕ) (n : ℕ) → is_in (filter p ns) n ≡ (is_in ns n && p n)
is_in-filter p [] n = refl
is_in-filter p (m ∷ ms) n =
    elim (cases_Bool (nat_eq m n)) [
      | inl same ↦ (let e : m ≡ n = eqb-true m n same in
          elim (cases_Bool (p n)) [
            | inl passes ↦ rw (e, passes, eq-eqb n n refl) refl
            | inr fails ↦ rw (e, fails, eq-eqb n n refl, is_in-filter p ms n, fails) (and_right (is_in ms n) false refl)
          ])
      | inr other ↦ elim (cases_Bool (p m)) [
        | inl passes ↦ rw (passes, other) (is_in-filter p ms n)
        | inr fails ↦ rw (fails, other) (is_in-filter p ms n)
      ]
    ]

distinct-filter : (p : ℕ → Bool) (ns : List ℕ) → AreDistinct ns → AreDistinct (filter p ns)
distinct-filter p [] distinct = tt
distinct-filter p (n ∷ ns) distinct =
    elim (cases_Bool (p n)) [
      | inl passes ↦ rw passes (is_in-filter p ns n ∙ and_left (is_in ns n) (p n) distinct.0, distinct-filter p ns distinct.1)
      | inr fails ↦ rw fails (distinct-filter p ns distinct.1)
    ]

-- the numbers but this one
abbrev without : ℕ → List ℕ → List ℕ
without n ns = filter (λ m. not (nat_eq m n)) ns

without_absent : (n : ℕ) (ns : List ℕ) → is_in ns n ≡ false → length (without n ns) ≡ length ns
without_absent n [] absent = refl
without_absent n (m ∷ ms) absent =
    let parts = or_parts (nat_eq m n) (is_in ms n) absent in
    rw (parts.0, without_absent n ms parts.1) refl

length-without : (n : ℕ) (ns : List ℕ) → AreDistinct ns → is_in ns n ≡ true → length ns ≡ suc (length (without n ns))
length-without n [] distinct present = cc
length-without n (m ∷ ms) distinct present =
    elim (cases_Bool (nat_eq m n)) [
      | inl same ↦ (let e : m ≡ n = eqb-true m n same in
          let absent : is_in ms n ≡ false = rw e at distinct.0 in
          rw (same, without_absent n ms absent) refl)
      | inr other ↦ (let later : is_in ms n ≡ true = rw other at present in
          rw (other, length-without n ms distinct.1 later) refl)
    ]

same_rest : (x : ℕ) (xs ys : List ℕ) → AreDistinct (x ∷ xs) → ((n : ℕ) → is_in (x ∷ xs) n ≡ is_in ys n) → (n : ℕ) → is_in xs n ≡ is_in (without x ys) n
same_rest x xs ys distinct same n =
    elim (cases_Bool (nat_eq n x)) [
      | inl here ↦ (let e : n ≡ x = eqb-true n x here in
          (rw e distinct.0) ∙ sym (is_in-filter (λ m. not (nat_eq m x)) ys n ∙ and_right (is_in ys n) (not (nat_eq n x)) (rw here refl)))
      | inr other ↦ (let apart : nat_eq x n ≡ false = grind (arith, nat_tests, other) in
          let there : is_in xs n ≡ is_in ys n = rw apart at (same n) in
          there ∙ sym (is_in-filter (λ m. not (nat_eq m x)) ys n ∙ rw other (and_true (is_in ys n))))
    ]

-- two such lists of the same numbers are equally long
same_length : (xs ys : List ℕ) → AreDistinct xs → AreDistinct ys → ((n : ℕ) → is_in xs n ≡ is_in ys n) → length xs ≡ length ys
same_length [] [] dx dy same = refl
same_length [] (y ∷ ys) dx dy same = (let wrong : false ≡ true = same y ∙ or_left (nat_eq y y) (is_in ys y) (eq-eqb y y refl) in cc)
same_length (x ∷ xs) ys dx dy same =
    let present : is_in ys x ≡ true = sym (same x) ∙ or_left (nat_eq x x) (is_in xs x) (eq-eqb x x refl) in
    let rest = same_length xs (without x ys) dx.1 (distinct-filter (λ m. not (nat_eq m x)) ys dy) (same_rest x xs ys dx same) in
    ap suc rest ∙ sym (length-without x ys dy present)

-- ---- the ends of the runs

abbrev ends : List (ℕ × ℕ) → List ℕ
ends runs = map (λ run. run.1) runs

below_ends : (b : ℕ) (runs : List (ℕ × ℕ)) (n : ℕ) → AllByRecursion (λ later. b + 1 < later.0) runs → AreApart runs → n ≤ b + 1 → is_in (ends runs) n ≡ false
below_ends b [] n later apart low = refl
below_ends b (q ∷ qs) n later apart low =
    rw (ne_eqb q.1 n (λ e. omega (arith, later.0, apart.0, e)), below_ends b qs n later.1 apart.2 low) refl

distinct_ends : (runs : List (ℕ × ℕ)) → AreApart runs → AreDistinct (ends runs)
distinct_ends [] apart = tt
distinct_ends (r ∷ rs) apart = (below_ends r.1 rs r.1 apart.1 apart.2 (omega arith), distinct_ends rs apart.2)

end_of_run : (a b n : ℕ) → a ≤ b → n ≤ b → (nat_eq b n || false) ≡ ((nat_le a n && nat_le n b || false) && not (nat_le a (n + 1) && nat_le (n + 1) b || false))
end_of_run a b n order low = grind (arith, nat_tests)

past_run : (a b n : ℕ) (here next : Bool) → b < n → (nat_eq b n || (here && not next)) ≡ ((nat_le a n && nat_le n b || here) && not (nat_le a (n + 1) && nat_le (n + 1) b || next))
past_run a b n here next high = grind (arith, nat_tests)

-- the ends are the numbers behind which the next is missing
is_end : (runs : List (ℕ × ℕ)) (n : ℕ) → AreApart runs → is_in (ends runs) n ≡ (is_named runs n && not (is_named runs (n + 1)))
is_end [] n apart = refl
is_end (r ∷ rs) n apart =
    elim (cases_lt r.1 n) [
      | inl high ↦ rw (is_end rs n apart.2) (past_run r.0 r.1 n (is_named rs n) (is_named rs (n + 1)) high)
      | inr low ↦ rw (below_ends r.1 rs n apart.1 apart.2 (omega arith), not_above r.1 rs n apart.1 (omega arith), not_above r.1 rs (n + 1) apart.1 (omega arith)) (end_of_run r.0 r.1 n apart.0 low)
    ]

-- ---- the count

-- the set has a number where the list has it
pub named_is_in : (runs : List (ℕ × ℕ)) (numbers : List ℕ) (n : ℕ) → Names runs numbers → is_named runs n ≡ is_in numbers n
named_is_in runs numbers n names =
    elim (cases_Bool (is_named runs n)) [
      | inl named ↦ named ∙ sym (names.only n named)
      | inr missing ↦ missing ∙ sym (false_from_ne_true (is_in numbers n) (λ present. both_ways (is_named runs n) missing (names.each n present)))
    ]

same_ends : (runs : List (ℕ × ℕ)) (numbers : List ℕ) (n : ℕ) → AreApart runs → Names runs numbers → is_in (ends runs) n ≡ is_in (filter (λ m. not (is_in numbers (m + 1))) numbers) n
same_ends runs numbers n apart names =
    is_end runs n apart
    ∙ (rw (named_is_in runs numbers n names, named_is_in runs numbers (n + 1) names) refl
    ∙ sym (is_in-filter (λ m. not (is_in numbers (m + 1))) numbers n))

-- there are as many runs as numbers behind which the next is missing
pub counted : (runs : List (ℕ × ℕ)) (numbers : List ℕ) → AreApart runs → Names runs numbers → AreDistinct numbers → length runs ≡ run_count numbers
counted runs numbers apart names distinct =
    sym (length-map runs (λ run. run.1))
    ∙ (same_length (ends runs) (filter (λ m. not (is_in numbers (m + 1))) numbers) (distinct_ends runs apart) (distinct-filter (λ m. not (is_in numbers (m + 1))) numbers distinct) (λ n. same_ends runs numbers n apart names)
    ∙ length-filter (λ m. not (is_in numbers (m + 1))) numbers)

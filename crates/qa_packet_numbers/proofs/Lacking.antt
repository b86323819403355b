-- The numbers that spans name and a set does not have.
use Rattle.std.proofs.Common.{◌≡◌, ◌∙◌, ℕ, zero, suc, ◌+◌, ◌-◌, ◌≤◌, ◌<◌, Bool, true, false, ◌&&◌, ◌||◌, not, min, max, List, [], ◌∷◌, ◌++◌, map, filter, fold, find, subst, unwrap_or, Option, Some, None, refl, sym, ap, arith, inl, inr, nat_le}
use Rattle.std.specs.Prelude.{◌==◌}
use Rattle.std.proofs.lemmas.Bool.Decides.{nat_tests}
use Rattle.std.proofs.lemmas.Bool.{cases_Bool, cases_lt, and_parts, and_from, or_cases, or_left, or_right, or_from, eqb-true, eq-eqb, le-leb, leb-true, leb-false, both_ways, false_from_ne_true}
use Rattle.qa_base.specs.machine.Numbers.{Names, is_in}
use Rattle.qa_base.specs.machine.Packets.{greatest_of, least_of}
use Rattle.qa_base.specs.values.Events.{is_named}
use Rattle.qa_base.specs.values.Limits.{in_range}
use Rattle.qa_packet_numbers.specs.Missing.{IsFirstMissing, candidates, first_outside, lesser, runs_of, with_number}
use Rattle.qa_packet_numbers.specs.Runs.{AreApart, IsGreatest, inserted}
use Rattle.qa_packet_numbers.proofs.Counts.{named_is_in}
use Rattle.qa_packet_numbers.proofs.Sets.{apart_inserted, is_between, names_inserted, not_above}

-- ---- of one span

-- what the first run is that does not end below a number
pub record IsFound (runs : List (ℕ × ℕ)) (n : ℕ) (run : ℕ × ℕ) : Type 0 where
  pub low : n ≤ run.1
  pub behind : is_named runs (run.1 + 1) ≡ false
  pub within : (m : ℕ) → run.0 ≤ m → m ≤ run.1 → is_named runs m ≡ true

pub found : (runs : List (ℕ × ℕ)) (n : ℕ) (run : ℕ × ℕ) → AreApart runs → find (λ r. nat_le n r.1) runs ≡ Some run → IsFound runs n run
found [] n run apart is = cc
found (r ∷ rs) n run apart is =
    elim (cases_Bool (nat_le n r.1)) [
      | inl here ↦ (let same : r ≡ run = (let s : Some r ≡ Some run = rw here at is in cc) in
          rw (← same) (record {
            low = leb-true n r.1 here;
            behind = or_from (is_between r (r.1 + 1)) (is_named rs (r.1 + 1))
                (false_from_ne_true (is_between r (r.1 + 1)) (λ b. (let high = leb-true (r.1 + 1) r.1 (and_parts (nat_le r.0 (r.1 + 1)) (nat_le (r.1 + 1) r.1) b).1 in omega arith)))
                (not_above r.1 rs (r.1 + 1) apart.1 (omega arith));
            within = λ m low high. or_left (is_between r m) (is_named rs m) (and_from (nat_le r.0 m) (nat_le m r.1) (le-leb r.0 m low) (le-leb m r.1 high));
          }))
      | inr past ↦ (let rest = found rs n run apart.2 (let s : find (λ q. nat_le n q.1) rs ≡ Some run = rw past at is in s) in
          let above = leb-false n r.1 past in
          record {
            low = rest.low;
            behind = or_from (is_between r (run.1 + 1)) (is_named rs (run.1 + 1))
                (false_from_ne_true (is_between r (run.1 + 1)) (λ b. (let high = leb-true (run.1 + 1) r.1 (and_parts (nat_le r.0 (run.1 + 1)) (nat_le (run.1 + 1) r.1) b).1 in omega (arith, rest.low))))
                rest.behind;
            within = λ m low high. or_right (is_between r m) (is_named rs m) (rest.within m low high);
          })
    ]

named_alone : (span : ℕ × ℕ) (n : ℕ) → span.0 ≤ n → n ≤ span.1 → is_named (span ∷ []) n ≡ true
named_alone span n low high = or_left (is_between span n) false (and_from (nat_le span.0 n) (nat_le n span.1) (le-leb span.0 n low) (le-leb n span.1 high))

alone_named : (span : ℕ × ℕ) (n : ℕ) → is_named (span ∷ []) n ≡ true → (span.0 ≤ n) × (n ≤ span.1)
alone_named span n named =
    elim (or_cases (is_between span n) false named) [
      | inl here ↦ (let parts = and_parts (nat_le span.0 n) (nat_le n span.1) here in (leb-true span.0 n parts.0, leb-true n span.1 parts.1))
      | inr never ↦ cc
    ]

-- the number behind the run is the first
pub missing_behind : (runs : List (ℕ × ℕ)) (span run : ℕ × ℕ) → IsFound runs span.0 run → run.0 ≤ span.0 → run.1 < span.1 → IsFirstMissing runs (span ∷ []) (Some (run.1 + 1))
missing_behind runs span run is begins ends = (
  named_alone span (run.1 + 1) (omega (arith, is.low)) (omega arith),
  is.behind,
  (λ n named lacks. (let within = alone_named span n named in
      elim (cases_lt run.1 n) [
        | inl above ↦ omega arith
        | inr below ↦ absurd (both_ways (is_named runs n) lacks (is.within n (omega (arith, within.0)) below))
      ])),
)

-- the run has them all
pub none_missing : (runs : List (ℕ × ℕ)) (span run : ℕ × ℕ) → IsFound runs span.0 run → run.0 ≤ span.0 → span.1 ≤ run.1 → IsFirstMissing runs (span ∷ []) None
none_missing runs span run is begins ends n named = (let within = alone_named span n named in is.within n (omega (arith, within.0)) (omega (arith, within.1)))

-- the first number of the span is missing
pub missing_first : (runs : List (ℕ × ℕ)) (span : ℕ × ℕ) → span.0 ≤ span.1 → is_named runs span.0 ≡ false → IsFirstMissing runs (span ∷ []) (Some span.0)
missing_first runs span order lacks = (named_alone span span.0 (omega arith) order, lacks, (λ n named other. (alone_named span n named).0))

pub in_range_is : (hi n : ℕ) → n ≤ hi → in_range 0 hi n ≡ Some n
in_range_is hi n low = rw (le-leb 0 n (omega arith), le-leb n hi low) refl

-- ---- of several spans

pub named_both : (xs ys : List (ℕ × ℕ)) (n : ℕ) → is_named (xs ++ ys) n ≡ (is_named xs n || is_named ys n)
named_both [] ys n = refl
named_both (x ∷ xs) ys n = rw (named_both xs ys n) (elim (is_between x n) as (λ b. (b || (is_named xs n || is_named ys n)) ≡ ((b || is_named xs n) || is_named ys n)) [ true ↦ refl | false ↦ refl ])

pub missing_both : (runs xs ys : List (ℕ × ℕ)) (a b : Option ℕ) → IsFirstMissing runs xs a → IsFirstMissing runs ys b → IsFirstMissing runs (xs ++ ys) (lesser a b)
missing_both runs xs ys None None fa fb = λ n named.
    elim (or_cases (is_named xs n) (is_named ys n) (sym (named_both xs ys n) ∙ named)) [ inl left ↦ fa n left | inr right ↦ fb n right ]
missing_both runs xs ys None (Some b) fa fb = (
  named_both xs ys b ∙ or_right (is_named xs b) (is_named ys b) fb.0,
  fb.1,
  (λ n named lacks. elim (or_cases (is_named xs n) (is_named ys n) (sym (named_both xs ys n) ∙ named)) [
    | inl left ↦ absurd (both_ways (is_named runs n) lacks (fa n left))
    | inr right ↦ fb.2 n right lacks
  ]),
)
missing_both runs xs ys (Some a) None fa fb = (
  named_both xs ys a ∙ or_left (is_named xs a) (is_named ys a) fa.0,
  fa.1,
  (λ n named lacks. elim (or_cases (is_named xs n) (is_named ys n) (sym (named_both xs ys n) ∙ named)) [
    | inl left ↦ fa.2 n left lacks
    | inr right ↦ absurd (both_ways (is_named runs n) lacks (fb n right))
  ]),
)
missing_both runs xs ys (Some a) (Some b) fa fb =
    let least : (n : ℕ) → is_named (xs ++ ys) n ≡ true → is_named runs n ≡ false → min a b ≤ n =
    λ n named lacks. elim (or_cases (is_named xs n) (is_named ys n) (sym (named_both xs ys n) ∙ named)) [
      | inl left ↦ (let low = fa.2 n left lacks in omega arith)
      | inr right ↦ (let low = fb.2 n right lacks in omega arith)
    ] in
    elim (cases_lt b a) [
      | inl less ↦ (let e : min a b ≡ b = omega arith in
          (rw e (named_both xs ys b ∙ or_right (is_named xs b) (is_named ys b) fb.0), rw e fb.1, least))
      | inr more ↦ (let e : min a b ≡ a = omega arith in
          (rw e (named_both xs ys a ∙ or_left (is_named xs a) (is_named ys a) fa.0), rw e fa.1, least))
    ]

-- ---- the definition

in_filter : (test : ℕ → Bool) (ns : List ℕ) (m : ℕ) → is_in ns m ≡ true → test m ≡ true → is_in (filter test ns) m ≡ true
in_filter test [] m here passes = cc
in_filter test (n ∷ ns) m here passes =
    elim (cases_Bool (test n)) [
      | inl pass ↦ rw pass (elim (or_cases (n == m) (is_in ns m) here) [
        | inl same ↦ or_left (n == m) (is_in (filter test ns) m) same
        | inr later ↦ or_right (n == m) (is_in (filter test ns) m) (in_filter test ns m later passes)
      ])
      | inr fail ↦ rw fail (elim (or_cases (n == m) (is_in ns m) here) [
        | inl same ↦ (let e : n ≡ m = eqb-true n m same in absurd (both_ways (test m) (rw (← e) fail) passes))
        | inr later ↦ in_filter test ns m later passes
      ])
    ]

all_filter : (test : ℕ → Bool) (ns : List ℕ) (m : ℕ) → is_in (filter test ns) m ≡ true → test m ≡ true
all_filter test [] m here = cc
all_filter test (n ∷ ns) m here =
    elim (cases_Bool (test n)) [
      | inl pass ↦ (let at : ((n == m) || is_in (filter test ns) m) ≡ true = rw pass at here in
          elim (or_cases (n == m) (is_in (filter test ns) m) at) [
            | inl same ↦ (let e : n ≡ m = eqb-true n m same in rw (← e) pass)
            | inr later ↦ all_filter test ns m later
          ])
      | inr fail ↦ (let at : is_in (filter test ns) m ≡ true = rw fail at here in all_filter test ns m at)
    ]

-- what the least of some numbers is
abbrev IsLeast : List ℕ → Option ℕ → Type 0
IsLeast ns None = (m : ℕ) → is_in ns m ≡ false
IsLeast ns (Some least) = (is_in ns least ≡ true) × ((m : ℕ) → is_in ns m ≡ true → least ≤ m)

is_least_more : (n : ℕ) (ns : List ℕ) (o : Option ℕ) → IsLeast ns o → IsLeast (n ∷ ns) (Some (min n (unwrap_or o n)))
is_least_more n ns None is = (
  (let P : ℕ → Type 0 = λ k. is_in (n ∷ ns) k ≡ true in subst P (let e : n ≡ min n n = omega arith in e) (or_left (n == n) (is_in ns n) (eq-eqb n n refl))),
  (λ m here. elim (or_cases (n == m) (is_in ns m) here) [
    | inl same ↦ (let e = eqb-true n m same in omega arith)
    | inr later ↦ absurd (both_ways (is_in ns m) (is m) later)
  ]),
)
is_least_more n ns (Some least) is = (
  elim (cases_lt least n) [
    | inl less ↦ (let P : ℕ → Type 0 = λ k. is_in (n ∷ ns) k ≡ true in subst P (let e : least ≡ min n least = omega arith in e) (or_right (n == least) (is_in ns least) is.0))
    | inr more ↦ (let P : ℕ → Type 0 = λ k. is_in (n ∷ ns) k ≡ true in subst P (let e : n ≡ min n least = omega arith in e) (or_left (n == n) (is_in ns n) (eq-eqb n n refl)))
  ],
  (λ m here. elim (or_cases (n == m) (is_in ns m) here) [
    | inl same ↦ (let e = eqb-true n m same in omega arith)
    | inr later ↦ (let low = is.1 m later in omega arith)
  ]),
)

least_is : (ns : List ℕ) → IsLeast ns (least_of ns)
least_is [] = λ m. refl
least_is (n ∷ ns) = is_least_more n ns (least_of ns) (least_is ns)

in_left : (xs ys : List ℕ) (m : ℕ) → is_in xs m ≡ true → is_in (xs ++ ys) m ≡ true
in_left [] ys m here = cc
in_left (x ∷ xs) ys m here =
    elim (or_cases (x == m) (is_in xs m) here) [
      | inl same ↦ or_left (x == m) (is_in (xs ++ ys) m) same
      | inr later ↦ or_right (x == m) (is_in (xs ++ ys) m) (in_left xs ys m later)
    ]

in_right : (xs ys : List ℕ) (m : ℕ) → is_in ys m ≡ true → is_in (xs ++ ys) m ≡ true
in_right [] ys m here = here
in_right (x ∷ xs) ys m here = or_right (x == m) (is_in (xs ++ ys) m) (in_right xs ys m here)

next_in : (ns : List ℕ) (n : ℕ) → is_in ns n ≡ true → is_in (map (λ m. m + 1) ns) (n + 1) ≡ true
next_in [] n here = cc
next_in (m ∷ ms) n here =
    elim (or_cases (m == n) (is_in ms n) here) [
      | inl same ↦ (let e = eqb-true m n same in or_left ((m + 1) == (n + 1)) (is_in (map (λ k. k + 1) ms) (n + 1)) (eq-eqb (m + 1) (n + 1) (omega arith)))
      | inr later ↦ or_right ((m + 1) == (n + 1)) (is_in (map (λ k. k + 1) ms) (n + 1)) (next_in ms n later)
    ]

-- the range of some ranges in which a number is
pub record IsWithin (ranges : List (ℕ × ℕ)) (lo hi n : ℕ) : Type 0 where
  pub begins : is_in (map (λ r. r.0) ranges) lo ≡ true
  pub low : lo ≤ n
  pub high : n ≤ hi
  pub all : (m : ℕ) → lo ≤ m → m ≤ hi → is_named ranges m ≡ true

range_of : (ranges : List (ℕ × ℕ)) (n : ℕ) → is_named ranges n ≡ true → (range : ℕ × ℕ) × IsWithin ranges range.0 range.1 n
range_of [] n named = cc
range_of (r ∷ rs) n named =
    elim (or_cases (is_between r n) (is_named rs n) named) [
      | inl here ↦ (let parts = and_parts (nat_le r.0 n) (nat_le n r.1) here in (
        r,
        record {
          begins = or_left (r.0 == r.0) (is_in (map (λ q. q.0) rs) r.0) (eq-eqb r.0 r.0 refl);
          low = leb-true r.0 n parts.0;
          high = leb-true n r.1 parts.1;
          all = λ m low high. or_left (is_between r m) (is_named rs m) (and_from (nat_le r.0 m) (nat_le m r.1) (le-leb r.0 m low) (le-leb m r.1 high));
        },
      ))
      | inr later ↦ (let rest = range_of rs n later in (
        rest.0,
        record {
          begins = or_right (r.0 == rest.0.0) (is_in (map (λ q. q.0) rs) rest.0.0) rest.1.begins;
          low = rest.1.low;
          high = rest.1.high;
          all = λ m low high. or_right (is_between r m) (is_named rs m) (rest.1.all m low high);
        },
      ))
    ]

-- at or below a number of a range that the list lacks stands a candidate that it lacks
candidate_down : (ranges : List (ℕ × ℕ)) (ns : List ℕ) (lo hi : ℕ) (steps n : ℕ) → n ≡ lo + steps → IsWithin ranges lo hi n → is_in ns n ≡ false
    → (m : ℕ) × (m ≤ n) × (is_in (candidates ranges ns) m ≡ true) × (is_named ranges m ≡ true) × (is_in ns m ≡ false)
candidate_down ranges ns lo hi zero n is at lacks =
    let e : n ≡ lo = omega arith in
    (n, omega arith, in_left (map (λ r. r.0) ranges) (map (λ m. m + 1) ns) n (rw e at.begins), at.all n at.low at.high, lacks)
candidate_down ranges ns lo hi (suc steps) n is at lacks =
    let k = lo + steps in
    let e : n ≡ k + 1 = omega arith in
    let in_range : IsWithin ranges lo hi k = record { begins = at.begins; low = omega arith; high = omega (arith, at.high); all = at.all } in
    elim (cases_Bool (is_in ns k)) [
      | inl has ↦ (n, omega arith, in_right (map (λ r. r.0) ranges) (map (λ m. m + 1) ns) n (rw e (next_in ns k has)), at.all n at.low at.high, lacks)
      | inr not_there ↦ (let down = candidate_down ranges ns lo hi steps k refl in_range not_there in
          (down.0, (let low = down.1 in omega arith), down.2, down.3, down.4))
    ]

abbrev is_outside : List (ℕ × ℕ) → List ℕ → ℕ → Bool
is_outside ranges ns n = is_named ranges n && not (is_in ns n)

not_false : (b : Bool) → not b ≡ true → b ≡ false
not_false true is = cc
not_false false is = refl

not_true : (b : Bool) → b ≡ false → not b ≡ true
not_true b is = rw is refl

outside_above : (ranges : List (ℕ × ℕ)) (ns : List ℕ) (least : Option ℕ) (n : ℕ) → IsLeast (filter (is_outside ranges ns) (candidates ranges ns)) least
    → is_named ranges n ≡ true → is_in ns n ≡ false → (m : ℕ) × (least ≡ Some m) × (m ≤ n)
outside_above ranges ns None n is named lacks =
    let range = range_of ranges n named in
    let steps = n - range.0.0 in
    let low = range.1.low in
    let down = candidate_down ranges ns range.0.0 range.0.1 steps n (omega arith) range.1 lacks in
    let passes = and_from (is_named ranges down.0) (not (is_in ns down.0)) down.3 (not_true (is_in ns down.0) down.4) in
    absurd (both_ways (is_in (filter (is_outside ranges ns) (candidates ranges ns)) down.0) (is down.0) (in_filter (is_outside ranges ns) (candidates ranges ns) down.0 down.2 passes))
outside_above ranges ns (Some least) n is named lacks =
    let range = range_of ranges n named in
    let steps = n - range.0.0 in
    let low = range.1.low in
    let down = candidate_down ranges ns range.0.0 range.0.1 steps n (omega arith) range.1 lacks in
    let passes = and_from (is_named ranges down.0) (not (is_in ns down.0)) down.3 (not_true (is_in ns down.0) down.4) in
    let below = is.1 down.0 (in_filter (is_outside ranges ns) (candidates ranges ns) down.0 down.2 passes) in
    let under = down.1 in
    (least, refl, omega arith)

outside_by : (runs spans : List (ℕ × ℕ)) (ns : List ℕ) (found least : Option ℕ) → ((n : ℕ) → is_named runs n ≡ is_in ns n) → IsFirstMissing runs spans found
    → IsLeast (filter (is_outside spans ns) (candidates spans ns)) least → found ≡ least
outside_by runs spans ns None None same first is = refl
outside_by runs spans ns None (Some m) same first is =
    let passes = all_filter (is_outside spans ns) (candidates spans ns) m is.0 in
    let parts = and_parts (is_named spans m) (not (is_in ns m)) passes in
    absurd (both_ways (is_in ns m) (not_false (is_in ns m) parts.1) (sym (same m) ∙ first m parts.0))
outside_by runs spans ns (Some n) least same first is =
    let above = outside_above spans ns least n is first.0 (sym (same n) ∙ first.1) in
    let P : Option ℕ → Type 0 = λ o. IsLeast (filter (is_outside spans ns) (candidates spans ns)) o in
    let at : IsLeast (filter (is_outside spans ns) (candidates spans ns)) (Some above.0) = subst P above.1 is in
    let passes = all_filter (is_outside spans ns) (candidates spans ns) above.0 at.0 in
    let parts = and_parts (is_named spans above.0) (not (is_in ns above.0)) passes in
    let low = first.2 above.0 parts.0 (same above.0 ∙ not_false (is_in ns above.0) parts.1) in
    let high = above.2 in
    let e : n ≡ above.0 = omega arith in
    ap Some e ∙ sym above.1

-- what a set lacks that has just these numbers
pub first_is : (runs spans : List (ℕ × ℕ)) (ns : List ℕ) (found : Option ℕ) → ((n : ℕ) → is_named runs n ≡ is_in ns n) → IsFirstMissing runs spans found → found ≡ first_outside spans ns
first_is runs spans ns found same first = outside_by runs spans ns found (first_outside spans ns) same first (least_is (filter (is_outside spans ns) (candidates spans ns)))

pub first_outside_is : (runs spans : List (ℕ × ℕ)) (found : Option ℕ) → IsFirstMissing runs spans found → (ns : List ℕ) → Names runs ns → found ≡ first_outside spans ns
first_outside_is runs spans found first ns names = first_is runs spans ns found (λ n. named_is_in runs ns n names) first

-- ---- the greatest number

abbrev IsMost : List ℕ → Option ℕ → Type 0
IsMost ns None = (m : ℕ) → is_in ns m ≡ false
IsMost ns (Some most) = (is_in ns most ≡ true) × ((m : ℕ) → is_in ns m ≡ true → m ≤ most)

is_most_more : (n : ℕ) (ns : List ℕ) (o : Option ℕ) → IsMost ns o → IsMost (n ∷ ns) (Some (max n (unwrap_or o n)))
is_most_more n ns None is = (
  (let P : ℕ → Type 0 = λ k. is_in (n ∷ ns) k ≡ true in subst P (let e : n ≡ max n n = omega arith in e) (or_left (n == n) (is_in ns n) (eq-eqb n n refl))),
  (λ m here. elim (or_cases (n == m) (is_in ns m) here) [
    | inl same ↦ (let e = eqb-true n m same in omega arith)
    | inr later ↦ absurd (both_ways (is_in ns m) (is m) later)
  ]),
)
is_most_more n ns (Some most) is = (
  elim (cases_lt most n) [
    | inl less ↦ (let P : ℕ → Type 0 = λ k. is_in (n ∷ ns) k ≡ true in subst P (let e : n ≡ max n most = omega arith in e) (or_left (n == n) (is_in ns n) (eq-eqb n n refl)))
    | inr more ↦ (let P : ℕ → Type 0 = λ k. is_in (n ∷ ns) k ≡ true in subst P (let e : most ≡ max n most = omega arith in e) (or_right (n == most) (is_in ns most) is.0))
  ],
  (λ m here. elim (or_cases (n == m) (is_in ns m) here) [
    | inl same ↦ (let e = eqb-true n m same in omega arith)
    | inr later ↦ (let high = is.1 m later in omega arith)
  ]),
)

most_is : (ns : List ℕ) → IsMost ns (greatest_of ns)
most_is [] = λ m. refl
most_is (n ∷ ns) = is_most_more n ns (greatest_of ns) (most_is ns)

most_by : (runs : List (ℕ × ℕ)) (ns : List ℕ) (found most : Option ℕ) → ((n : ℕ) → is_named runs n ≡ is_in ns n) → IsGreatest runs found → IsMost ns most → found ≡ most
most_by runs ns None None same first is = refl
most_by runs ns None (Some m) same first is = absurd (both_ways (is_named runs m) (first m) (same m ∙ is.0))
most_by runs ns (Some n) None same first is = absurd (both_ways (is_in ns n) (is n) (sym (same n) ∙ first.0))
most_by runs ns (Some n) (Some m) same first is =
    let high = is.1 n (sym (same n) ∙ first.0) in
    let low = first.1 m (same m ∙ is.0) in
    let e : n ≡ m = omega arith in
    ap Some e

-- the greatest number of a set that has just these numbers
pub greatest_is : (runs : List (ℕ × ℕ)) (ns : List ℕ) (found : Option ℕ) → Names runs ns → IsGreatest runs found → found ≡ greatest_of ns
greatest_is runs ns found names is = most_by runs ns found (greatest_of ns) (λ n. named_is_in runs ns n names) is (most_is ns)

-- ---- the runs of some numbers

same_number : (m n : ℕ) → (nat_le m n && nat_le n m) ≡ (m == n)
same_number m n = grind (arith, nat_tests)

or_moved : (a b c : Bool) → (b || (a || c)) ≡ ((a || b) || c)
or_moved true true c = refl
or_moved true false c = refl
or_moved false b c = refl

named_fold : (ns : List ℕ) (runs : List (ℕ × ℕ)) (n : ℕ) → AreApart runs → is_named (fold with_number runs ns) n ≡ (is_in ns n || is_named runs n)
named_fold [] runs n apart = refl
named_fold (m ∷ ns) runs n apart =
    named_fold ns (inserted (m, m) runs) n (apart_inserted (m, m) runs (omega arith) apart)
    ∙ (ap (λ b. is_in ns n || b) (names_inserted (m, m) runs n (omega arith) apart ∙ ap (λ b. b || is_named runs n) (same_number m n))
    ∙ or_moved (m == n) (is_in ns n) (is_named runs n))

or_false : (b : Bool) → (b || false) ≡ b
or_false true = refl
or_false false = refl

-- they have just these numbers
pub named_is : (ns : List ℕ) (n : ℕ) → is_named (runs_of ns) n ≡ is_in ns n
named_is ns n = named_fold ns [] n tt ∙ or_false (is_in ns n)

-- they are the runs of just these numbers
pub names_runs : (ns : List ℕ) → Names (runs_of ns) ns
names_runs ns = record { only = λ n named. sym (named_is ns n) ∙ named; each = λ n here. named_is ns n ∙ here }

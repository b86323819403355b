-- Sets of packet numbers, seen as their runs of consecutive numbers: each run is a pair of its
-- least and its greatest number, and the runs stand in rising order. Which numbers are in the set,
-- `is_named` says of the runs.
use Rattle.std.specs.Prelude.{◌≡◌, ℕ, ◌+◌, ◌<◌, ◌≤◌, Bool, true, false, not, ◌&&◌, nat_eq, nat_le}
use Rattle.std.specs.Prelude.{nat_lt, min, max, count_by, List, [], ◌∷◌, Option, Some, None}
use Rattle.std.specs.Prelude.{option_to_list, ◌++◌, ◌-◌, if◌then◌else◌}
use Rattle.std.specs.List.{AllByRecursion}
use Rattle.qa_base.specs.machine.Numbers.{is_in}
use Rattle.qa_base.specs.values.Events.{is_named}

-- the runs rise, and before each but the first a number is missing
abbrev pub AreApart : List (ℕ × ℕ) → Type 0
AreApart [] = Unit {0}
AreApart (run ∷ runs) =
    (run.0 ≤ run.1) × AllByRecursion (λ later. run.1 + 1 < later.0) runs × AreApart runs

-- each number of the span is in the set
abbrev pub HasEach : List (ℕ × ℕ) → ℕ × ℕ → Type 0
HasEach runs span = (n : ℕ) → span.0 ≤ n → n ≤ span.1 → is_named runs n ≡ true

-- each number of the span is in the run
abbrev pub is_within : ℕ × ℕ → ℕ × ℕ → Bool
is_within span run = nat_le run.0 span.0 && nat_le span.1 run.1

-- this is the greatest number of the set, or the set is empty
abbrev pub IsGreatest : List (ℕ × ℕ) → Option ℕ → Type 0
IsGreatest runs None = (n : ℕ) → is_named runs n ≡ false
IsGreatest runs (Some greatest) =
    (is_named runs greatest ≡ true) × ((n : ℕ) → is_named runs n ≡ true → n ≤ greatest)

-- no number stands twice
abbrev pub AreDistinct : List ℕ → Type 0
AreDistinct [] = Unit {0}
AreDistinct (n ∷ ns) = (is_in ns n ≡ false) × AreDistinct ns

-- how many runs of consecutive numbers these are: the numbers behind which the next is missing
abbrev pub run_count : List ℕ → ℕ
run_count numbers = count_by (λ n. not (is_in numbers (n + 1))) numbers

-- ---- one run more

-- the run ends before the number, and one at least is missing between them
abbrev pub ends_before : ℕ × ℕ → ℕ → Bool
ends_before run number = nat_lt (run.1 + 1) number

-- one run from the least to the greatest number of two
abbrev pub joined : ℕ × ℕ → ℕ × ℕ → ℕ × ℕ
joined a b = (min a.0 b.0, max a.1 b.1)

-- the runs with those numbers too: what the span touches becomes one run with it
abbrev pub inserted : ℕ × ℕ → List (ℕ × ℕ) → List (ℕ × ℕ)
inserted span [] = span ∷ []
inserted span (run ∷ runs) =
    if ends_before run span.0 then run ∷ inserted span runs else
    (if ends_before span run.0 then span ∷ run ∷ runs else
    inserted (joined span run) runs)

-- what the last run becomes with the span, where the span begins directly behind it
abbrev pub lengthened : ℕ × ℕ → Option (ℕ × ℕ) → Option (ℕ × ℕ)
lengthened span None = None
lengthened span (Some last) = if nat_eq (last.1 + 1) span.0 then Some (last.0, span.1) else None

-- ---- one number less

-- what of the run stands below the number
abbrev pub part_below : ℕ → ℕ × ℕ → Option (ℕ × ℕ)
part_below n run = if nat_lt run.0 n then Some (run.0, n - 1) else None

-- and what stands above it
abbrev pub part_above : ℕ → ℕ × ℕ → Option (ℕ × ℕ)
part_above n run = if nat_lt n run.1 then Some (n + 1, run.1) else None

-- the runs without that number: the run that has it is cut there
abbrev pub removed : ℕ → List (ℕ × ℕ) → List (ℕ × ℕ)
removed n [] = []
removed n (run ∷ runs) =
    if nat_lt run.1 n then run ∷ removed n runs else
    (if nat_lt n run.0 then run ∷ runs else
    option_to_list (part_below n run) ++ (option_to_list (part_above n run) ++ runs))

-- The numbers that spans name and a set does not have, and the runs of some numbers.
use Rattle.std.specs.Prelude.{◌≡◌, ◌≤◌, ℕ, ◌+◌, ◌&&◌, not, min, fold, filter, map, true, false}
use Rattle.std.specs.Prelude.{List, [], ◌++◌, Option, Some, None}
use Rattle.qa_base.specs.machine.Numbers.{is_in}
use Rattle.qa_base.specs.machine.Packets.{least_of}
use Rattle.qa_base.specs.values.Events.{is_named}
use Rattle.qa_packet_numbers.specs.Runs.{inserted, removed}

-- ---- runs

abbrev pub with_number : List (ℕ × ℕ) → ℕ → List (ℕ × ℕ)
with_number runs n = inserted (n, n) runs

-- the runs of consecutive numbers that these make, in rising order
abbrev pub runs_of : List ℕ → List (ℕ × ℕ)
runs_of numbers = fold with_number [] numbers

-- those of the numbers that no range names
abbrev pub unnamed : List (ℕ × ℕ) → List ℕ → List ℕ
unnamed ranges numbers = filter (λ n. not (is_named ranges n)) numbers

-- ---- the numbers that ranges name beside others

abbrev pub with_range : List (ℕ × ℕ) → ℕ × ℕ → List (ℕ × ℕ)
with_range runs range = inserted range runs

abbrev pub without_number : List (ℕ × ℕ) → ℕ → List (ℕ × ℕ)
without_number runs n = removed n runs

-- the runs of the numbers that the ranges name and that are none of these
abbrev pub others : List (ℕ × ℕ) → List ℕ → List (ℕ × ℕ)
others ranges numbers = fold without_number (fold with_range [] ranges) numbers

-- ---- the first number outside

-- where a number can be the first that ranges name and a list lacks: at the beginning of a range,
-- or behind a number of the list
abbrev pub candidates : List (ℕ × ℕ) → List ℕ → List ℕ
candidates ranges numbers = map (λ range. range.0) ranges ++ map (λ n. n + 1) numbers

-- the least number that the ranges name and that is none of these
abbrev pub first_outside : List (ℕ × ℕ) → List ℕ → Option ℕ
first_outside ranges numbers =
    least_of (filter (λ n. is_named ranges n && not (is_in numbers n)) (candidates ranges numbers))

-- ---- of a set

-- this is the least number that the spans name and the set does not have, or the set has them all
abbrev pub IsFirstMissing : List (ℕ × ℕ) → List (ℕ × ℕ) → Option ℕ → Type 0
IsFirstMissing runs spans None = (n : ℕ) → is_named spans n ≡ true → is_named runs n ≡ true
IsFirstMissing runs spans (Some m) =
    (is_named spans m ≡ true) × (is_named runs m ≡ false)
    × ((n : ℕ) → is_named spans n ≡ true → is_named runs n ≡ false → m ≤ n)

-- the lesser of the two, where there are two
abbrev pub lesser : Option ℕ → Option ℕ → Option ℕ
lesser None b = b
lesser (Some a) None = Some a
lesser (Some a) (Some b) = Some (min a b)

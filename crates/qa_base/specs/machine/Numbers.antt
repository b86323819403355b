-- Which packet numbers ranges name, by tests that compute.
use Rattle.std.specs.Prelude.{◌≡◌, ℕ, ◌+◌, ◌≤◌, ◌==◌, ◌&&◌, ◌||◌, not, nat_le, nat_lt, Bool, true}
use Rattle.std.specs.Prelude.{List}
use Rattle.std.specs.List.{list_all, list_any, AllByRecursion}
use Rattle.qa_base.specs.values.Events.{is_named}

abbrev pub is_in : List ℕ → ℕ → Bool
is_in numbers n = list_any (λ m. m == n) numbers

-- a number from lo to below hi has the next one beside it
abbrev pub has_next : List ℕ → ℕ → ℕ → ℕ → Bool
has_next numbers lo hi m = not (nat_le lo m && nat_lt m hi) || is_in numbers (m + 1)

-- the range has no gap: its least number is there, and each goes on to the next
abbrev pub has_range : List ℕ → ℕ × ℕ → Bool
has_range numbers range =
    is_in numbers range.0 && list_all (has_next numbers range.0 range.1) numbers

-- each number of the ranges is one of these
abbrev pub has_all : List ℕ → List (ℕ × ℕ) → Bool
has_all numbers ranges = list_all (has_range numbers) ranges

-- the ranges name all of the least numbers, and none but the most
abbrev pub names_between : List (ℕ × ℕ) → (least most : List ℕ) → Bool
names_between ranges least most = has_all most ranges && list_all (is_named ranges) least

-- ---- the rules that the tests stand for

-- no number but these is in a range
pub record NamesOnly (ranges : List (ℕ × ℕ)) (numbers : List ℕ) : Type 0 where
  pub only : (n : ℕ) → is_named ranges n ≡ true → is_in numbers n ≡ true

-- these numbers are in a range, and no others
pub record Names (ranges : List (ℕ × ℕ)) (numbers : List ℕ) : Type 0 where
  pub only : (n : ℕ) → is_named ranges n ≡ true → is_in numbers n ≡ true
  pub each : (n : ℕ) → is_in numbers n ≡ true → is_named ranges n ≡ true

-- all of the least numbers are in a range, and none but the most
pub record NamesBetween (ranges : List (ℕ × ℕ)) (least most : List ℕ) : Type 0 where
  pub only : (n : ℕ) → is_named ranges n ≡ true → is_in most n ≡ true
  pub each : (n : ℕ) → is_in least n ≡ true → is_named ranges n ≡ true

-- each range is from a number to one that is not below it
abbrev pub AreRanges : List (ℕ × ℕ) → Type 0
AreRanges ranges = AllByRecursion (λ range. range.0 ≤ range.1) ranges

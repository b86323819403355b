-- How many numbers of a set lie above one and up to another.
use Rattle.std.specs.Prelude.{ℕ, ◌+◌, ◌-◌, ◌&&◌, nat_le, nat_lt, min, max, count_by, sum_by, List}

-- of these numbers
abbrev pub count_in : List ℕ → ℕ → ℕ → ℕ
count_in numbers n top = count_by (λ m. nat_lt n m && nat_le m top) numbers

-- of those of a run
abbrev pub size_in : ℕ → ℕ → ℕ × ℕ → ℕ
size_in n top run = (min run.1 top + 1) - max run.0 (n + 1)

-- of those of all runs
abbrev pub total_in : ℕ → ℕ → List (ℕ × ℕ) → ℕ
total_in n top runs = sum_by (size_in n top) runs

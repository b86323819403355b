-- The entries by which the packets are found that an acknowledgment would still cover.
use Rattle.std.specs.Prelude.{◌≡◌, ◌<◌, ℕ, List, [], ◌∷◌, ◌++◌}
use Rattle.std.specs.List.{AllByRecursion}

-- their numbers with their places
pub record Entries : Type 0 where
  pub entries : List (ℕ × ℕ)

-- each number is above all before it
abbrev pub EntriesRise : List (ℕ × ℕ) → Type 0
EntriesRise [] = Unit {0}
EntriesRise (e ∷ es) = AllByRecursion (λ f. e.0 < f.0) es × EntriesRise es

-- the first of them has this number
abbrev pub BeginsWith : ℕ → List (ℕ × ℕ) → Type 0
BeginsWith n [] = ⊥
BeginsWith n (e ∷ es) = e.0 ≡ n

-- it is below this number
abbrev pub BeginsBelow : ℕ → List (ℕ × ℕ) → Type 0
BeginsBelow n [] = ⊥
BeginsBelow n (e ∷ es) = e.0 < n

-- the entries in a map, which are below this end, and those behind them in a queue
pub record AreParted (gaps recent : List (ℕ × ℕ)) (end : ℕ) : Type 0 where
  pub rising : EntriesRise (gaps ++ recent)
  pub below : AllByRecursion (λ e. e.0 < end) gaps

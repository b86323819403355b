-- Pieces of text.
use Rattle.std.specs.Prelude.{ℕ, List, ◌++◌, decimal}

-- some words and then a number
unfoldable pub numbered : List ℕ → ℕ → List ℕ
numbered words n = words ++ decimal n

-- some words and then a name
unfoldable pub named : List ℕ → List ℕ → List ℕ
named words name = words ++ name

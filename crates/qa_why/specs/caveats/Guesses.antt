-- Lines of which something was guessed: their logger says so at the key `x_guess`.
use Rattle.std.specs.Prelude.{◌≡◌, ℕ, ◌+◌, ◌-◌, ◌^◌, min, nat_le, codes, length, reverse, Bool}
use Rattle.std.specs.Prelude.{List, [], ◌∷◌, ◌++◌, ◌&&◌, is_some, if◌then◌else◌}
use Rattle.memchr.specs.Find.{first_of, matches}
use Rattle.qa_explain.specs.text.Pieces.{numbered}
use Rattle.qa_why.specs.caveats.Remarks.{remarks_at}
use Rattle.qa_why.specs.declared.caveats.guesses.Guessed.{Guessed}
use Rattle.qa_why.specs.declared.caveats.guesses.Guesses.{Guesses}

-- something on the line was guessed: the key stands there
abbrev pub is_guessed : List ℕ → Bool
is_guessed l = is_some (first_of (matches l (codes "\"x_guess\"") 0))

-- a line that was guessed, by its number
pub record Guess : Type 0 where
  pub line : ℕ
  pub bytes : List ℕ

abbrev pub guess_on : ℕ → List ℕ → List Guess
guess_on n l = if is_guessed l then record { line = n; bytes = l } ∷ [] else []

-- of lines that stand behind so many others
abbrev pub guesses_behind : ℕ → List (List ℕ) → List Guess
guesses_behind n [] = []
guesses_behind n (l ∷ ls) = guess_on (n + 1) l ++ guesses_behind (n + 1) ls

-- those of a trace, in the order of its lines
abbrev pub guesses : List (List ℕ) → List Guess
guesses ls = guesses_behind 0 ls

abbrev pub with_guess : List Guess → ℕ → List ℕ → List Guess
with_guess gs n l = gs ++ record { line = n; bytes = l } ∷ []

-- a count stays at the most that 64 bits hold
abbrev pub counted : ℕ → ℕ
counted n = min n (2 ^ 64 - 1)

-- the line of the first, and that line; 0 and nothing where there is none
abbrev pub first_line : List Guess → ℕ
first_line [] = 0
first_line (g ∷ gs) = g.line

abbrev pub first_bytes : List Guess → List ℕ
first_bytes [] = []
first_bytes (g ∷ gs) = g.bytes

-- so many were noted: the first of them, and the last with its line
abbrev pub AreNoted : Guesses → List Guess → Type 0
AreNoted noted gs =
    (noted.count ≡ counted (length gs)) × (noted.first ≡ first_line gs)
    × (noted.last ≡ first_line (reverse gs)) × (noted.bytes.items ≡ first_bytes (reverse gs))

-- how many they are, and the line of the first
abbrev pub guessed_of : List Guess → Guessed
guessed_of gs = record { count = counted (length gs); first = first_line gs }

-- ---- where a line is refused

-- how many lines before a refused one a guess is named
abbrev pub near_lines : ℕ
near_lines = 8

-- what was guessed on the line
abbrev pub guess_text : List ℕ → List ℕ
guess_text l = remarks_at (codes "  guessed: ") (codes "x_guess") l

unfoldable pub words_at : ℕ → List ℕ
words_at n = numbered (codes "  guessed on line ") n ++ codes ": "

-- a line m is there, and near before line n
abbrev pub is_near : ℕ → ℕ → Bool
is_near n m = nat_le 1 m && nat_le n (m + near_lines)

-- what was guessed on line m, where it is near before line n
abbrev pub near_text : ℕ → ℕ → List ℕ → List ℕ
near_text n m l = if is_near n m then remarks_at (words_at m) (codes "x_guess") l else []

-- what was guessed on line n, or else on the last line before it that is near, of these
abbrev pub guesses_before : ℕ → List ℕ → List Guess → List ℕ
guesses_before n l gs =
    if is_guessed l
    then guess_text l
    else near_text n (first_line (reverse gs)) (first_bytes (reverse gs))

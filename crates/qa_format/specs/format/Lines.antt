-- The lines of bytes.
use Rattle.std.specs.Prelude.{ℕ, ◌==◌, Bool, List, [], ◌∷◌, ◌++◌, ◌≡◌, ◌≤◌, false, length, flat_map}
use Rattle.std.specs.Prelude.{if◌then◌else◌}
use Rattle.std.specs.List.{list_any}

abbrev pub is_lf : ℕ → Bool
is_lf b = b == 10

abbrev pub has_lf : List ℕ → Bool
has_lf = list_any is_lf

-- the most bytes that a line has, its LF not counted
abbrev pub line_limit : ℕ
line_limit = 65536

-- a byte in front of what the bytes after it were cut into
abbrev pub put_front : ℕ → List (List ℕ) × List ℕ → List (List ℕ) × List ℕ
put_front b ([], rest) = ([], b ∷ rest)
put_front b (line ∷ lines, rest) = ((b ∷ line) ∷ lines, rest)

-- the lines that an LF ends, without it, and the bytes after the last LF
abbrev pub cut : List ℕ → List (List ℕ) × List ℕ
cut [] = ([], [])
cut (b ∷ bs) = if is_lf b then ([] ∷ (cut bs).0, (cut bs).1) else put_front b (cut bs)

abbrev pub ended_lines : List ℕ → List (List ℕ)
ended_lines bytes = (cut bytes).0

abbrev pub unended : List ℕ → List ℕ
unended bytes = (cut bytes).1

-- what stands after the last LF is a line too, where it has a byte
abbrev pub last_line : List ℕ → List (List ℕ)
last_line [] = []
last_line (b ∷ bs) = (b ∷ bs) ∷ []

abbrev pub lines : List ℕ → List (List ℕ)
lines bytes = ended_lines bytes ++ last_line (unended bytes)

-- ---- back to bytes

abbrev pub with_lf : List ℕ → List ℕ
with_lf l = l ++ 10 ∷ []

-- the bytes of lines that an LF ends each
abbrev pub ended : List (List ℕ) → List ℕ
ended ls = flat_map with_lf ls

-- what a line can be: it has no LF, and no more bytes than a line may have
abbrev pub IsShortLine : List ℕ → Type 0
IsShortLine l = (has_lf l ≡ false) × (length l ≤ line_limit)

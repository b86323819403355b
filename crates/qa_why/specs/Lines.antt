-- How a line of a trace is shown.
use Rattle.std.specs.Prelude.{ℕ, ◌&&◌, nat_le, nat_lt, codes, decimal, length, map, take, List}
use Rattle.std.specs.Prelude.{◌++◌, if◌then◌else◌}

-- the byte as it is shown: a printable character of ASCII, or a question mark
abbrev pub printable : ℕ → ℕ
printable byte = if nat_le 32 byte && nat_le byte 126 then byte else 63

-- the most bytes of a line that are shown
abbrev pub shown_bytes : ℕ
shown_bytes = 200

-- the first bytes of a line
abbrev pub first_bytes : ℕ → List ℕ → List ℕ
first_bytes count l = take count l

-- the number of a line, before it
unfoldable pub margin : ℕ → List ℕ
margin n = codes "  " ++ decimal n ++ codes " | "

-- what stands behind a line of so many bytes
unfoldable pub cut_text : ℕ → List ℕ
cut_text count = if nat_lt shown_bytes count then codes " ..\n" else codes "\n"

-- the line with its number; the first bytes of one that is long
unfoldable pub line_text : ℕ → List ℕ → List ℕ
line_text n l = margin n ++ map printable (first_bytes shown_bytes l) ++ cut_text (length l)

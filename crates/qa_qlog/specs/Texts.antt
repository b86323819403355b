-- The texts of a log in sequence form: a JSON text sequence (RFC 7464), or a JSON text a line.
use Rattle.std.specs.Prelude.{◌==◌, ◌||◌, ◌&&◌, ◌+◌, ◌++◌, ℕ, Bool, List, [], ◌∷◌, length, min}
use Rattle.std.specs.Prelude.{nat_le, nat_lt, count_by, Option, Some, None, if◌then◌else◌}
use Rattle.std.specs.List.{list_all}
use Rattle.qa_cut.specs.Cuts.{is_mark, Uncut}

abbrev pub line_feed : ℕ
line_feed = 10

-- 0x1E, which RFC 7464 puts before each text
abbrev pub record_separator : ℕ
record_separator = 30

-- the most bytes that a text has: 1 MiB
abbrev pub text_limit : ℕ
text_limit = 1048576

-- the highest number of a line: later lines have it too
abbrev pub last_line : ℕ
last_line = 18446744073709551615

-- the byte at which a log is cut, by its first byte
abbrev pub mark_of : List ℕ → ℕ
mark_of [] = line_feed
mark_of (b ∷ bs) = if b == record_separator then record_separator else line_feed

-- white space of ASCII: 9 to 13, and 32
abbrev pub is_white : ℕ → Bool
is_white b = (nat_le 9 b && nat_le b 13) || b == 32

abbrev pub is_blank : List ℕ → Bool
is_blank = list_all is_white

-- ---- pieces

-- a byte in front of the pieces of the bytes after it
abbrev pub put_front : ℕ → List (List ℕ) → List (List ℕ)
put_front b [] = (b ∷ []) ∷ []
put_front b (p ∷ ps) = (b ∷ p) ∷ ps

-- the bytes up to each mark, and those after the last, if there are any
abbrev pub pieces : ℕ → List ℕ → List (List ℕ)
pieces mark [] = []
pieces mark (b ∷ bs) = if is_mark mark b then [] ∷ pieces mark bs else put_front b (pieces mark bs)

-- ---- texts

-- a text, with the number of the line in which it begins
pub record Numbered : Type 0 where
  pub line : ℕ
  pub bytes : List ℕ

-- the texts of a log, up to one that is too long, and the line of that one
abbrev pub Read : Type 0
Read = List Numbered × Option ℕ

abbrev pub put_text : Numbered → Read → Read
put_text text read = (text ∷ read.0, read.1)

-- the line after this piece, which begins in line n, and its mark
abbrev pub line_after : ℕ → ℕ → List ℕ → ℕ
line_after mark n piece = min last_line (n + count_by (is_mark line_feed) (piece ++ mark ∷ []))

-- what the pieces are, if the first begins in line n; blank ones are passed over
abbrev pub texts_from : ℕ → ℕ → List (List ℕ) → Read
texts_from mark n [] = ([], None)
texts_from mark n (p ∷ ps) =
    if nat_lt text_limit (length p) then ([], Some n)
    else if is_blank p then texts_from mark (line_after mark n p) ps
    else put_text (record { line = n; bytes = p }) (texts_from mark (line_after mark n p) ps)

abbrev pub texts_by : ℕ → List ℕ → Read
texts_by mark log = texts_from mark 1 (pieces mark log)

abbrev pub texts : List ℕ → Read
texts log = texts_by (mark_of log) log

-- ---- what is left of a log

-- what was not returned yet, and the line in which the next text begins
pub record Rest : Type 0 where
  pub uncut : Uncut
  pub line : ℕ

-- what is left to be returned, if more bytes come
abbrev pub left : Rest → List ℕ → Read
left rest more =
    texts_from rest.uncut.mark rest.line (pieces rest.uncut.mark (rest.uncut.bytes ++ more))

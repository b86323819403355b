-- A text of JSON in which nothing is hidden.
use Rattle.std.specs.Prelude.{◌/◌, ◌%◌, ℕ, List, [], ◌∷◌, flat_map, if◌then◌else◌}
use Rattle.std.specs.Char.{digit_char, encode_utf8}
use Rattle.std.specs.Char.Escape.{encode_utf16}
use Rattle.std.specs.Str.{chars}
use Rattle.qa_check.specs.names.Names.{is_hidden}

-- a unit of UTF-16 as JSON escapes it: `\u` and four digits of base 16
abbrev pub unit_escape : ℕ → List ℕ
unit_escape unit =
    92 ∷ 117 ∷ digit_char (unit / 0x1000 % 16) ∷ digit_char (unit / 0x100 % 16)
    ∷ digit_char (unit / 0x10 % 16) ∷ digit_char (unit % 16) ∷ []

-- a character of a text of JSON; one that is hidden stands in a string there
abbrev pub seen_character : ℕ → List ℕ
seen_character c = if is_hidden c then flat_map unit_escape (encode_utf16 c) else encode_utf8 c

-- the text with each hidden character escaped
abbrev pub without_hidden : List ℕ → List ℕ
without_hidden text = flat_map seen_character (chars text)

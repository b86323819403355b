-- How the name of a file is shown.
use Rattle.std.specs.Prelude.{◌==◌, ◌||◌, ◌+◌, ◌/◌, ◌%◌, ℕ, Bool, List, [], ◌∷◌, flat_map, nat_lt}
use Rattle.std.specs.Prelude.{if◌then◌else◌}
use Rattle.std.specs.Char.{encode_utf8, is_control}
use Rattle.std.specs.Int.{is_in_range}
use Rattle.std.specs.Str.{chars}

-- The characters that Unicode gives the property Default_Ignorable_Code_Point, for which nothing is
-- drawn: fillers and a joiner; selectors of variants; and format characters with the numbers beside
-- them that are kept for more, among which are the tags.
unfoldable pub is_filler : ℕ → Bool
is_filler c =
    c == 0x34F || (is_in_range 0x115F 0x1160 c
    || (is_in_range 0x17B4 0x17B5 c || (c == 0x3164 || c == 0xFFA0)))

unfoldable pub is_selector : ℕ → Bool
is_selector c =
    is_in_range 0x180B 0x180F c || (is_in_range 0xFE00 0xFE0F c || is_in_range 0xE0000 0xE0FFF c)

unfoldable pub is_format : ℕ → Bool
is_format c =
    c == 0xAD || (c == 0x61C || (is_in_range 0x200B 0x200F c || (is_in_range 0x202A 0x202E c
    || (is_in_range 0x2060 0x206F c || (c == 0xFEFF || (is_in_range 0xFFF0 0xFFF8 c
    || (is_in_range 0x1BCA0 0x1BCA3 c || is_in_range 0x1D173 0x1D17A c)))))))

-- the characters that are shown by their bytes: the control characters, those that end lines, and
-- those for which nothing is drawn, among which are those that turn the order of a text around
abbrev pub is_hidden : ℕ → Bool
is_hidden c =
    is_control c
    || (is_in_range 0x2028 0x2029 c || (is_filler c || (is_selector c || is_format c)))

-- a digit of base 16, of 0 to 9 and A to F
abbrev pub hex_digit : ℕ → ℕ
hex_digit n = if nat_lt n 10 then 48 + n else 55 + n

-- a byte as `\x` and two such digits
abbrev pub escaped : ℕ → List ℕ
escaped byte = 92 ∷ 120 ∷ hex_digit (byte / 16) ∷ hex_digit (byte % 16) ∷ []

abbrev pub shown_character : ℕ → List ℕ
shown_character c = if is_hidden c then flat_map escaped (encode_utf8 c) else encode_utf8 c

-- a name as it is shown: each hidden character by its bytes in UTF-8, and all others as they are
abbrev pub shown_name : List ℕ → List ℕ
shown_name name = flat_map shown_character (chars name)

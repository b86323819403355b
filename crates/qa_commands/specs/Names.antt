-- Lines that end in the name of a file, and texts of several lines.
use Rattle.std.specs.Prelude.{◌==◌, ◌&&◌, ◌++◌, ℕ, Bool, List, codes, flat_map, not}
use Rattle.std.specs.Prelude.{if◌then◌else◌}
use Rattle.std.specs.Char.{encode_utf8}
use Rattle.std.specs.Str.{chars}
use Rattle.qa_check.specs.names.Names.{escaped, is_hidden, shown_name}

-- a line that ends in a name
abbrev pub line_with : List ℕ → List ℕ → List ℕ
line_with beginning name = beginning ++ (shown_name name ++ codes "\n")

-- ---- a text of several lines

-- a character is shown by its bytes in a text of several lines, where LF ends one
abbrev pub is_hidden_in_lines : ℕ → Bool
is_hidden_in_lines c = is_hidden c && not (c == 10)

abbrev pub shown_in_lines : ℕ → List ℕ
shown_in_lines c =
    if is_hidden_in_lines c then flat_map escaped (encode_utf8 c) else encode_utf8 c

-- a text of several lines as it is shown: each hidden character but LF by its bytes in UTF-8
abbrev pub shown_lines : List ℕ → List ℕ
shown_lines text = flat_map shown_in_lines (chars text)

-- Which of the connections in a log is converted. Records tell connections apart by the groups and
-- the paths that they name. Connections have numbers from 1 on, in the order in which records first
-- name them, and the one of a chosen number is converted.
use Rattle.std.specs.Prelude.{◌||◌, ◌+◌, ◌-◌, ◌^◌, ◌==◌, ◌++◌, ℕ, Bool, true, List, []}
use Rattle.std.specs.Prelude.{String, codes, map, min, is_some, Option, if◌then◌else◌}
use Rattle.std.specs.BTreeMap.{insert_entry}
use Rattle.std.specs.Cmp.Lexicographic.{slice_cmp}
use Rattle.std.specs.Map.{lookup}
use Rattle.std.specs.Option.{unwrap_or}
use Rattle.std.specs.Ordering.{nat_cmp}
use Rattle.std.specs.Str.{bytes_eq}
use Rattle.std.specs.String.{string_bytes}
use Rattle.qa_convert.specs.declared.connections.Connections.{Connections}

-- the names that records had so far, each with its number, in the order of the texts; how many
-- there are, up to the end of 64 bits; the number of the connection that is converted
pub record Numbering : Type 0 where
  pub numbers : List (List ℕ × ℕ)
  pub count : ℕ
  pub chosen : ℕ

-- no record was read
abbrev pub none_named : ℕ → Numbering
none_named chosen = record { numbers = []; count = 0; chosen = chosen }

-- a name by its text
abbrev pub numbered_text : {Z : Type 0} → String Z × ℕ → List ℕ × ℕ
numbered_text e = (string_bytes e.0, e.1)

abbrev pub numbering_of : Connections → Numbering
numbering_of c = record {
  numbers = map numbered_text c.numbers.entries;
  count = c.count;
  chosen = c.chosen;
}

-- ---- names

-- a record may name a group, a path, or both
abbrev pub tells_apart : Option (List ℕ) → Option (List ℕ) → Bool
tells_apart group path = is_some group || is_some path

-- the name of a connection, by the group and the path of a record
abbrev pub connection_name : Option (List ℕ) → Option (List ℕ) → List ℕ
connection_name group path = (unwrap_or group [] ++ codes " ") ++ unwrap_or path []

-- ---- numbers

-- the number that a name has, if a record had it before
abbrev pub number_in : Numbering → List ℕ → Option ℕ
number_in old name = lookup (bytes_eq name) old.numbers

-- the number of the next name
abbrev pub next_number : Numbering → ℕ
next_number old = min (old.count + 1) (2 ^ 64 - 1)

-- the number of a name, which is the next one if no record had it
abbrev pub number_of : Numbering → List ℕ → ℕ
number_of old name = unwrap_or (number_in old name) (next_number old)

-- a new name gets the next number
abbrev pub with_new : Numbering → List ℕ → Numbering
with_new old name = record {
  numbers = insert_entry (slice_cmp nat_cmp) old.numbers name (next_number old);
  count = next_number old;
  chosen = old.chosen;
}

-- once a record has a name
abbrev pub with_name : Numbering → List ℕ → Numbering
with_name old name = if is_some (number_in old name) then old else with_new old name

-- ---- records

-- once a record has this group and this path
abbrev pub numbered : Numbering → Option (List ℕ) → Option (List ℕ) → Numbering
numbered old group path =
    if tells_apart group path then with_name old (connection_name group path) else old

-- a record that names neither is of each connection, another is of the one that it names
abbrev pub is_of_chosen : Numbering → Option (List ℕ) → Option (List ℕ) → Bool
is_of_chosen old group path =
    if tells_apart group path then number_of old (connection_name group path) == old.chosen
    else true

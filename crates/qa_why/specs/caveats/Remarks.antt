-- What a logger says to people, at keys that begin with `x_`: strings.
use Rattle.std.specs.Prelude.{ℕ, codes, map, List, [], ◌++◌, Option, Some, None}
use Rattle.std.specs.Prelude.{option_and_then}
use Rattle.serde_json.specs.Data.{Data, Items, no_items, item}
use Rattle.serde_json.specs.Find.{get, as_array, as_str}
use Rattle.qa_why.specs.Lines.{first_bytes, printable}
use Rattle.qa_why.specs.Values.{data_of}

-- the most bytes of a remark that are shown
abbrev pub shown_of_remark : ℕ
shown_of_remark = 300

-- ---- in a text

-- a remark behind some words, on a line of its own
unfoldable pub remark : List ℕ → List ℕ → List ℕ
remark words s = words ++ map printable (first_bytes shown_of_remark s) ++ codes "\n"

-- of a value that is no string nothing is said
abbrev pub string_remark : List ℕ → Option (List ℕ) → List ℕ
string_remark words None = []
string_remark words (Some s) = remark words s

abbrev pub value_string : List ℕ → Data → List ℕ
value_string words d = string_remark words (as_str d)

-- each string of a list
abbrev pub each_remark : List ℕ → Items → List ℕ
each_remark words no_items = []
each_remark words (item d ds) = value_string words d ++ each_remark words ds

abbrev pub list_or_string : List ℕ → Option Items → Data → List ℕ
list_or_string words (Some ds) d = each_remark words ds
list_or_string words None d = value_string words d

-- a value that is a string, or a list of strings
abbrev pub value_remarks : List ℕ → Data → List ℕ
value_remarks words d = list_or_string words (as_array d) d

abbrev pub some_remarks : List ℕ → Option Data → List ℕ
some_remarks words None = []
some_remarks words (Some d) = value_remarks words d

-- what stands at a key of the line, each string behind the words
abbrev pub remarks_at : List ℕ → List ℕ → List ℕ → List ℕ
remarks_at words key l = some_remarks words (option_and_then (get key) (data_of l))

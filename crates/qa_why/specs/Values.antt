-- What stands at the key that a fault is about.
use Rattle.std.specs.Prelude.{ℕ, Bool, true, false, codes, decimal, length, map, nat_lt, List, []}
use Rattle.std.specs.Prelude.{◌++◌, Option, Some, None, is_some, option_and_then, if◌then◌else◌}
use Rattle.std.specs.Str.{is_utf8}
use Rattle.serde_json.specs.Data.{Data}
use Rattle.serde_json.specs.Find.{get, as_array, as_bool, as_object, as_str}
use Rattle.serde_json.specs.Read.{read}
use Rattle.qa_base.specs.declared.key.Key.{Key}
use Rattle.qa_base.specs.declared.key.Key.TheVariants as key
use Rattle.qa_base.specs.values.Names.{key_name}
use Rattle.qa_format.specs.declared.fault.Fault.{Fault}
use Rattle.qa_format.specs.declared.fault.Fault.TheVariants as fault
use Rattle.qa_format.specs.format.Keys.{integer_of}
use Rattle.qa_why.specs.Lines.{first_bytes, printable}

-- the JSON value that the bytes are
unfoldable pub data_of : List ℕ → Option Data
data_of l = if is_utf8 l then read l else None

-- the key whose value is wrong
abbrev pub wrong_key : Fault → Option Key
wrong_key (fault.WrongKind k) = Some k
wrong_key (fault.OutOfRange k) = Some k
wrong_key fault.UnknownEvent = Some key.Event
wrong_key fault.Version = Some key.Version
wrong_key _ = None

-- ---- a value

abbrev pub shown_of_string : ℕ
shown_of_string = 40

unfoldable pub closing_quote : ℕ → List ℕ
closing_quote count = if nat_lt shown_of_string count then codes "\" .." else codes "\""

-- a string by its first bytes
unfoldable pub quoted : List ℕ → List ℕ
quoted s = codes "\"" ++ map printable (first_bytes shown_of_string s) ++ closing_quote (length s)

abbrev pub other_text : Bool → Bool → List ℕ
other_text true is_object = codes "a list"
other_text false true = codes "an object"
other_text false false = codes "a number that is no integer from 0 to 18446744073709551615"

abbrev pub flag_text : Option Bool → Data → List ℕ
flag_text (Some true) d = codes "true"
flag_text (Some false) d = codes "false"
flag_text None d = other_text (is_some (as_array d)) (is_some (as_object d))

abbrev pub string_text : Option (List ℕ) → Data → List ℕ
string_text (Some s) d = quoted s
string_text None d = flag_text (as_bool d) d

abbrev pub number_text : Option ℕ → Data → List ℕ
number_text (Some n) d = decimal n
number_text None d = string_text (as_str d) d

-- an integer or a string as it is, and what else it is
abbrev pub value_text : Data → List ℕ
value_text d = number_text (integer_of d) d

-- ---- where it stands

unfoldable pub some_value : Data → List ℕ
some_value d = codes ": it is " ++ value_text d

abbrev pub found_text : Option Data → List ℕ
found_text None = []
found_text (Some d) = some_value d

abbrev pub value_at : Key → List ℕ → List ℕ
value_at k l = found_text (option_and_then (get (key_name k)) (data_of l))

abbrev pub value_in : Option Key → List ℕ → List ℕ
value_in None l = []
value_in (Some k) l = value_at k l

-- the wrong value in the line
abbrev pub wrong_value : Fault → Option (List ℕ) → List ℕ
wrong_value f None = []
wrong_value f (Some l) = value_in (wrong_key f) l

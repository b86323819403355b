-- What a value says: whether anything, and its text.
use Rattle.std.specs.Prelude.{◌≡◌, ◌==◌, ℕ, Bool, true, false, not, List, length, is_some}
use Rattle.std.specs.Prelude.{Option, Some, None, option_and_then}
use Rattle.std.specs.Str.{bytes_eq}
use Rattle.json.specs.Json.{Json, null, boolean, number, string, array, object}
use Rattle.json.specs.Json.{Items, no_items, item, Members, no_members, member}
use Rattle.json.specs.Find.{as_str, as_object, get, is_null, Finds}
use Rattle.qa_qlog.specs.declared.says.FourFound.{FourFound}
use Rattle.qa_qlog.specs.Times.{is_nothing}

abbrev pub has_item : Items → Bool
has_item no_items = false
has_item (item j js) = true

abbrev pub has_member : Members → Bool
has_member no_members = false
has_member (member k j ms) = true

abbrev pub has_any : Json → Bool
has_any null = false
has_any (boolean b) = false
has_any (number s) = false
has_any (string s) = false
has_any (array js) = has_item js
has_any (object ms) = has_member ms

-- null, false, 0 and what is empty say nothing
abbrev pub says : Json → Bool
says null = false
says (boolean b) = b
says (number s) = not (is_nothing s)
says (string s) = not (length s == 0)
says (array js) = has_item js
says (object ms) = has_member ms

abbrev pub says_at : Option Json → Bool
says_at None = false
says_at (Some j) = says j

abbrev pub is_given : Option Json → Bool
is_given None = false
is_given (Some j) = not (is_null j)

abbrev pub is_object : Json → Bool
is_object j = is_some (as_object j)

abbrev pub text_at : Option Json → Option (List ℕ)
text_at o = option_and_then as_str o

abbrev pub object_at : Option Json → Option Members
object_at o = option_and_then as_object o

abbrev pub key_at : List ℕ → Option Json → Option Json
key_at key o = option_and_then (get key) o

-- no two of four names are the same
pub record AreFour (a b c d : List ℕ) : Type 0 where
  pub first_second : bytes_eq a b ≡ false
  pub first_third : bytes_eq a c ≡ false
  pub first_fourth : bytes_eq a d ≡ false
  pub second_third : bytes_eq b c ≡ false
  pub second_fourth : bytes_eq b d ≡ false
  pub third_fourth : bytes_eq c d ≡ false

-- what is found is what is there at each of four names
pub record FindsFour (four : FourFound) (there : List ℕ → Option Json) (a b c d : List ℕ)
    : Type 0 where
  pub first : Finds four.first (there a)
  pub second : Finds four.second (there b)
  pub third : Finds four.third (there c)
  pub fourth : Finds four.fourth (there d)

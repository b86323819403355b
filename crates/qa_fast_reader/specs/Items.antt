-- What is found of a list's values, and of the members of an object that stands in another.
use Rattle.std.specs.Prelude.{◌≡◌, ◌≤◌, [], ◌∷◌, ◌++◌, ℕ, List, Some, false}
use Rattle.std.specs.Str.{IsUtf8}
use Rattle.json.specs.Json as form
use Rattle.json.specs.Json.{Json}
use Rattle.json.specs.Lex.{Lexeme, between, lex, token, colon}
use Rattle.json.specs.Token as tokens
use Rattle.json.specs.Tree.{depth}
use Rattle.serde_json.specs.Data as json
use Rattle.serde_json.specs.Data.{Data}
use Rattle.serde_json.specs.Read.{of_json, of_items, of_members}
use Rattle.qa_scan.specs.Lexes.{EndsIn, Lexes, lexemes, items_lexemes, members_lexemes}
use Rattle.qa_scan.specs.Lexes.{IsValueWithin}

-- the bytes are a text of this value, which is no list and no object, and the rest
abbrev pub IsSimpleOf : Data → List ℕ → List ℕ → Type 0
IsSimpleOf value bytes rest = IsValueWithin 0 value bytes rest

-- the bytes are a value that nests no deeper than so, and the rest
abbrev pub IsSomeValue : ℕ → List ℕ → List ℕ → Type 0
IsSomeValue d bytes rest = (value : Data) × IsValueWithin d value bytes rest

-- these values before others
abbrev pub items_after : List Data → json.Items → json.Items
items_after [] more = more
items_after (d ∷ seen) more = json.item d (items_after seen more)

-- the bytes are a text of this value, which nests no deeper than so, and then these lexemes
pub record IsValueBefore (d : ℕ) (value : Data) (ls : List Lexeme) (bytes : List ℕ) : Type 0 where
  pub form : Json
  pub reads : of_json form ≡ Some value
  pub shallow : depth form ≤ d
  pub lexes : lex between bytes ≡ lexemes form ++ ls

-- a list's values before the rest are these: if the rest is more values, with which the list nests
-- no deeper than so, then the bytes are the list of all
pub record FollowsItems (d : ℕ) (seen : List Data) (bytes rest : List ℕ) : Type 0 where
  pub ends : EndsIn bytes rest
  pub utf8 : IsUtf8 rest → IsUtf8 bytes
  pub reads : (j : Json) (js : form.Items) (values : json.Items) (behind : List Lexeme)
      → depth (form.array (form.item j js)) ≤ d → of_items (form.item j js) ≡ Some values
      → lex between rest ≡ items_lexemes false (form.item j js) ++ behind
      → IsValueBefore d (json.array (items_after seen values)) behind bytes

-- the same of an object's members
pub record FollowsMembersWithin (d : ℕ) (seen : json.Members) (bytes rest : List ℕ) : Type 0 where
  pub ends : EndsIn bytes rest
  pub utf8 : IsUtf8 rest → IsUtf8 bytes
  pub reads : (key : List ℕ) (j : Json) (ms : form.Members) (all : json.Members)
      (behind : List Lexeme)
      → depth (form.object (form.member key j ms)) ≤ d
      → of_members (form.member key j ms) seen ≡ Some all
      → lex between rest ≡ members_lexemes false (form.member key j ms) ++ behind
      → IsValueBefore d (json.object all) behind bytes

-- the bytes are this key, a colon, a text of its value, which nests no deeper than so, and the rest
pub record IsMemberWithin (d : ℕ) (key : List ℕ) (value : Data) (bytes rest : List ℕ) : Type 0 where
  pub form : Json
  pub reads : of_json form ≡ Some value
  pub shallow : depth form ≤ d
  pub lexed : Lexes bytes rest (token (tokens.string key) ∷ colon ∷ lexemes form)

-- the bytes are a member whose value nests no deeper than so, and the rest
abbrev pub IsSomeMember : ℕ → List ℕ → List ℕ → Type 0
IsSomeMember d bytes rest = (key : List ℕ) × (value : Data) × IsMemberWithin d key value bytes rest

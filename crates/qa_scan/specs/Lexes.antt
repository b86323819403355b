-- What bytes are to the lexer of JSON.
use Rattle.std.specs.Prelude.{◌≡◌, ◌≤◌, ◌++◌, ◌∷◌, [], ℕ, List, Bool, true, false, not, ◌&&◌, ◌==◌}
use Rattle.std.specs.Prelude.{nat_le, Some, if◌then◌else◌}
use Rattle.std.specs.Str.{IsUtf8}
use Rattle.json.specs.Json as json
use Rattle.json.specs.Json.{Json}
use Rattle.json.specs.Lex.{Lexeme, token, comma, colon, between, lex}
use Rattle.json.specs.Token as tokens
use Rattle.json.specs.Tree.{depth}
use Rattle.serde_json.specs.Data.{Data, Num}
use Rattle.serde_json.specs.Read.{number_of, of_json}

-- the bytes are some others, and then the rest
abbrev pub EndsIn : List ℕ → List ℕ → Type 0
EndsIn bytes rest = (front : List ℕ) × (bytes ≡ front ++ rest)

-- the bytes are these lexemes and then the rest, and they are text in UTF-8 if the rest is
pub record Lexes (bytes rest : List ℕ) (ls : List Lexeme) : Type 0 where
  pub ends : EndsIn bytes rest
  pub lexes : lex between bytes ≡ ls ++ lex between rest
  pub utf8 : IsUtf8 rest → IsUtf8 bytes

-- the bytes are this byte with white space round it, and the rest
pub record IsPast (byte : ℕ) (bytes rest : List ℕ) : Type 0 where
  pub before : List ℕ
  pub behind : List ℕ
  pub spaced : Lexes bytes before []
  pub is : before ≡ byte ∷ behind
  pub spaced_behind : Lexes behind rest []

-- ---- strings

-- printable ASCII that stands for itself in a string
abbrev pub is_plain : ℕ → Bool
is_plain b = nat_le 32 b && nat_le b 126 && not (b == 34) && not (b == 92)

-- the bytes are this text in quotes, and the rest
abbrev pub IsQuoted : List ℕ → List ℕ → List ℕ → Type 0
IsQuoted text bytes rest = bytes ≡ 34 ∷ (text ++ 34 ∷ rest)

-- the bytes are a string, and the rest
pub record IsString (bytes rest : List ℕ) : Type 0 where
  pub text : List ℕ
  pub lexed : Lexes bytes rest (token (tokens.string text) ∷ [])

-- ---- numbers

-- the bytes are a number that serde_json reads, and the rest
pub record IsNumber (bytes rest : List ℕ) : Type 0 where
  pub text : List ℕ
  pub number : Num
  pub reads : number_of text ≡ Some number
  pub lexed : Lexes bytes rest (token (tokens.number text) ∷ [])

-- ---- values

-- a comma, where something stands before
abbrev pub comma_if : Bool → List Lexeme
comma_if later = if later then comma ∷ [] else []

-- the lexemes of a value, with its closing bracket
abbrev mutual
  pub lexemes : Json → List Lexeme
  lexemes json.null = token tokens.null ∷ []
  lexemes (json.boolean b) = token (tokens.boolean b) ∷ []
  lexemes (json.number s) = token (tokens.number s) ∷ []
  lexemes (json.string s) = token (tokens.string s) ∷ []
  lexemes (json.array js) = token tokens.begin_array ∷ items_lexemes false js
  lexemes (json.object ms) = token tokens.begin_object ∷ members_lexemes false ms

  pub items_lexemes : Bool → json.Items → List Lexeme
  items_lexemes later json.no_items = token tokens.end_array ∷ []
  items_lexemes later (json.item j js) = comma_if later ++ (lexemes j ++ items_lexemes true js)

  pub members_lexemes : Bool → json.Members → List Lexeme
  members_lexemes later json.no_members = token tokens.end_object ∷ []
  members_lexemes later (json.member k j ms) =
      comma_if later ++ (token (tokens.string k) ∷ colon ∷ (lexemes j ++ members_lexemes true ms))

-- how deep a value of a line's object may nest: the object is one level more, and a line has 127
abbrev pub deepest : ℕ
deepest = 126

-- the bytes are a text of this value, which nests no deeper than so, and the rest
pub record IsValueWithin (d : ℕ) (value : Data) (bytes rest : List ℕ) : Type 0 where
  pub form : Json
  pub reads : of_json form ≡ Some value
  pub shallow : depth form ≤ d
  pub lexed : Lexes bytes rest (lexemes form)

-- the bytes are a text of this value, and the rest
abbrev pub IsValueOf : Data → List ℕ → List ℕ → Type 0
IsValueOf value bytes rest = IsValueWithin deepest value bytes rest

-- the bytes are a value, and the rest
abbrev pub IsValue : List ℕ → List ℕ → Type 0
IsValue bytes rest = (value : Data) × IsValueOf value bytes rest

-- ---- keys

-- the bytes are this text in quotes, a colon and the rest
pub record IsKey (text bytes rest : List ℕ) : Type 0 where
  pub middle : List ℕ
  pub quoted : IsQuoted text bytes middle
  pub at_colon : Lexes middle rest (colon ∷ [])

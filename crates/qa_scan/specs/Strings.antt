-- What stands in a string, to the lexer of JSON.
use Rattle.std.specs.Prelude.{◌≡◌, ◌≤◌, ◌<◌, ◌+◌, ◌||◌, ◌==◌, ℕ, List, Bool, true, Some, nat_le}
use Rattle.std.specs.Prelude.{length, drop, get_or}
use Rattle.std.specs.Str.{IsUtf8}
use Rattle.json.specs.Lex.{lex, in_string}
use Rattle.json.specs.Text.{content, plain, prepend, code_unit}
use Rattle.qa_scan.specs.Lexes.{is_plain}

-- inside a string, the bytes are some of its text and then what the rest is, and they are text in
-- UTF-8 where the rest is
pub record Passes (bytes rest : List ℕ) : Type 0 where
  pub text : List ℕ
  pub reads : content plain bytes ≡ prepend text (content plain rest)
  pub lexes : lex in_string bytes ≡ lex in_string rest
  pub utf8 : IsUtf8 rest → IsUtf8 bytes

-- from the first to the second of two places inside a string, the bytes are some of its text
pub record IsPart (bytes : List ℕ) (i j : ℕ) : Type 0 where
  pub after : i ≤ j
  pub within : j ≤ length bytes
  pub passes : Passes (drop i bytes) (drop j bytes)

-- from the first to the second of two places the bytes are plain
pub record ArePlain (bytes : List ℕ) (i j : ℕ) : Type 0 where
  pub after : i ≤ j
  pub within : j ≤ length bytes
  pub plain : (k : ℕ) → i ≤ k → k < j → is_plain (get_or bytes k 0) ≡ true

-- a byte above printable ASCII
abbrev pub is_high : ℕ → Bool
is_high b = nat_le 127 b

-- a byte that may stand alone behind a backslash
abbrev pub is_short : ℕ → Bool
is_short b =
    (b == 34) || (b == 92) || (b == 47) || (b == 98) || (b == 102) || (b == 110) || (b == 114)
    || (b == 116)

-- four hexadecimal digits at this place spell this code unit
abbrev pub IsUnit : List ℕ → ℕ → ℕ → Type 0
IsUnit bytes i unit =
    code_unit (get_or bytes i 0) (get_or bytes (i + 1) 0) (get_or bytes (i + 2) 0)
    (get_or bytes (i + 3) 0) ≡ Some unit

-- at this place stands an escape with this code unit
pub record IsUnitAt (bytes : List ℕ) (i unit : ℕ) : Type 0 where
  pub within : i + 6 ≤ length bytes
  pub backslash : get_or bytes i 0 ≡ 92
  pub letter : get_or bytes (i + 1) 0 ≡ 117
  pub is : IsUnit bytes (i + 2) unit

-- What is found of a list of ranges.
use Rattle.std.specs.Prelude.{◌≡◌, ◌<◌, ◌≤◌, ◌+◌, ◌^◌, ◌++◌, ◌∷◌, [], ℕ, List, true, false}
use Rattle.std.specs.Prelude.{decimal, drop}
use Rattle.std.specs.List.{AllByRecursion}
use Rattle.std.specs.Str.{IsUtf8}
use Rattle.json.specs.Lex.{Lexeme, between, lex}
use Rattle.serde_json.specs.Data as json
use Rattle.serde_json.specs.Data.{Data}
use Rattle.serde_json.specs.Written.{outline, items_outline}
use Rattle.qa_base.specs.values.Events.{has_ranges}
use Rattle.qa_format.specs.format.Proper.{IsRange}
use Rattle.qa_format.specs.format.Written.{integer_pair, integer_pairs}
use Rattle.qa_scan.specs.Lexes.{EndsIn, Lexes, lexemes, items_lexemes}

abbrev pub Spans : Type 0
Spans = List (ℕ × ℕ)

-- the value that the ranges are
abbrev pub ranges_data : Spans → Data
ranges_data ranges = json.array (integer_pairs ranges)

-- the bytes are a list of these two numbers, and the rest
abbrev pub IsPair : ℕ → ℕ → List ℕ → List ℕ → Type 0
IsPair lo hi bytes rest = Lexes bytes rest (lexemes (outline (integer_pair (lo, hi))))

-- the second place is the first or the next, and nothing but white space stands between them
pub record IsBehindSpace (bytes : List ℕ) (place next : ℕ) : Type 0 where
  pub from : place ≤ next
  pub near : next ≤ place + 1
  pub spaced : Lexes (drop place bytes) (drop next bytes) []

-- the bytes are a range and the rest, and the range goes behind the others
pub record TakesRange (old new : Spans) (bytes rest : List ℕ) : Type 0 where
  pub range : ℕ × ℕ
  pub is_new : new ≡ old ++ range ∷ []
  pub is_range : IsRange range
  pub lexed : Lexes bytes rest (lexemes (outline (integer_pair range)))

-- the bytes are a list of these ranges, and the rest
pub record TakesRanges (ranges : Spans) (bytes rest : List ℕ) : Type 0 where
  pub some : has_ranges ranges ≡ true
  pub are : AllByRecursion IsRange ranges
  pub lexed : Lexes bytes rest (lexemes (outline (ranges_data ranges)))

-- the ranges before the rest were found: if the rest is more ranges, then the bytes are the list of
-- all
pub record FollowsRanges (ranges : Spans) (bytes rest : List ℕ) : Type 0 where
  pub ends : EndsIn bytes rest
  pub are : AllByRecursion IsRange ranges
  pub utf8 : IsUtf8 rest → IsUtf8 bytes
  pub lexes : (range : ℕ × ℕ) (more : Spans) (behind : List Lexeme)
      → lex between rest
      ≡ items_lexemes false (items_outline (integer_pairs (range ∷ more))) ++ behind
      → lex between bytes ≡ lexemes (outline (ranges_data (ranges ++ range ∷ more))) ++ behind

-- the bytes are the bracket that opens a range, its two numbers in order with a comma between them,
-- and what stands at the end
pub record IsShortRange (bytes : List ℕ) (lo hi end : ℕ) : Type 0 where
  pub is : bytes ≡ 91 ∷ (decimal lo ++ 44 ∷ (decimal hi ++ drop end bytes))
  pub ordered : lo ≤ hi
  pub small : hi < 10 ^ 16
  pub near : end ≤ 34

-- The texts of members, each with a comma before it, and of ranges.
use Rattle.std.specs.Prelude.{◌++◌, ℕ, List, [], ◌∷◌, decimal, flat_map}
use Rattle.json.specs.Print.{quoted}
use Rattle.serde_json.specs.Data.{Data}
use Rattle.serde_json.specs.Written.{compact_text}
use Rattle.qa_base.specs.declared.key.Key.{Key}
use Rattle.qa_base.specs.declared.key.Key.TheVariants as key
use Rattle.qa_base.specs.declared.line_kind.LineKind.{LineKind}
use Rattle.qa_base.specs.values.Names.{key_name, line_kind_name}
use Rattle.qa_format.specs.format.Written.{Pairs, integer, string}

-- a comma, a key and its colon
abbrev pub before_value : Key → List ℕ
before_value k = 44 ∷ (quoted (key_name k) ++ 58 ∷ [])

-- a member with a comma before it
abbrev pub led : Key × Data → List ℕ
led pair = before_value pair.0 ++ compact_text pair.1

abbrev pub all_led : Pairs → List ℕ
all_led pairs = flat_map led pairs

-- the members of an event that says nothing but its kind and its time
abbrev pub bare_pairs : LineKind → ℕ → Pairs
bare_pairs kind time =
    (key.Event, string (line_kind_name kind)) ∷ (key.Time, integer time) ∷ []

-- the list of the two numbers of a range
abbrev pub pair_text : ℕ × ℕ → List ℕ
pair_text range = 91 ∷ (decimal range.0 ++ 44 ∷ (decimal range.1 ++ 93 ∷ []))

-- ranges with a comma before each
abbrev pub led_pairs : List (ℕ × ℕ) → List ℕ
led_pairs ranges = flat_map (λ range. 44 ∷ pair_text range) ranges

-- ranges with commas between them
abbrev pub pairs_text : List (ℕ × ℕ) → List ℕ
pairs_text [] = []
pairs_text (range ∷ ranges) = pair_text range ++ led_pairs ranges

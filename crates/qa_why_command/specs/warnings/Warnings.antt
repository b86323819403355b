-- What a trace is warned of.
use Rattle.std.specs.Prelude.{ℕ, not, bytes_eq, take, Bool, true, false, List, [], ◌∷◌}
use Rattle.std.specs.List.{filter, flat_map}
use Rattle.qa_why_command.specs.warnings.Found.{Concern, Found, HeaderKey, LargePacket, MetricsKey}
use Rattle.qa_why_command.specs.warnings.Found.{found}
use Rattle.qa_why_command.specs.warnings.Texts.{warning_text}

-- the two are warned of once: the same key of metrics lines, or packets that are too large
abbrev pub are_same : Concern → Concern → Bool
are_same (HeaderKey v k) d = false
are_same (MetricsKey v k) (MetricsKey w m) = bytes_eq k m
are_same (MetricsKey v k) d = false
are_same (LargePacket e size most) (LargePacket f length least) = true
are_same (LargePacket e size most) d = false

abbrev pub is_same : Found → Found → Bool
is_same f g = are_same f.concern g.concern

-- the first of each, where this says which are the same
abbrev pub firsts : {X : Type 0} → (X → X → Bool) → List X → List X
firsts same [] = []
firsts same (x ∷ xs) = x ∷ filter (λ y. not (same x y)) (firsts same xs)

-- the most warnings of a trace
abbrev pub most_warnings : ℕ
most_warnings = 100

-- those that are told: the first of each, and no more than a hundred
unfoldable pub told : List Found → List Found
told fs = take most_warnings (firsts is_same fs)

-- the text for the good lines of a trace, with this name
abbrev pub warnings : List ℕ → List (List ℕ) → List ℕ
warnings name ls = flat_map (warning_text name) (told (found ls))

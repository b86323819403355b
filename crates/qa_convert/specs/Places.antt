-- Where in a log a line is from, in words.
use Rattle.std.specs.Prelude.{ℕ, ◌==◌, Bool, false, List, [], ◌++◌, codes, decimal}
use Rattle.std.specs.Prelude.{if◌then◌else◌}
use Rattle.qa_convert.specs.declared.place.Place.{Place}
use Rattle.qa_convert.specs.declared.place.Place.TheVariants.{Line, Byte}
use Rattle.qa_convert.specs.declared.place.Stretch.{Stretch}

abbrev pub place_text : Place → List ℕ
place_text (Line n) = codes "line " ++ decimal n
place_text (Byte n) = codes "byte " ++ decimal n

-- whether both are one place
abbrev pub is_place : Place → Place → Bool
is_place (Line n) (Line m) = n == m
is_place (Byte n) (Byte m) = n == m
is_place _ _ = false

-- one place, or from the first to the last
abbrev pub stretch_text : Stretch → List ℕ
stretch_text s =
    (if s.is_guess then codes "guessed at " else [])
    ++ place_text s.first
    ++ (if is_place s.first s.last then [] else codes " to " ++ place_text s.last)

-- The rows of lines as a member of a JSON object, behind other members.
use Rattle.std.specs.Prelude.{◌==◌, ℕ, codes, List, [], ◌∷◌, ◌++◌, if◌then◌else◌}
use Rattle.qa_violations.specs.around.Rows.{last_of, objects}

-- behind what stands before the first, with commas between
abbrev pub listed : List ℕ → List (List ℕ) → List ℕ
listed first [] = []
listed first (o ∷ os) = first ++ o ++ listed (codes ",") os

unfoldable pub list_member : List (List ℕ) → List ℕ
list_member os = codes ",\"around\":[" ++ listed [] os ++ codes "]"

-- where none are asked for, there is no such member
abbrev pub member_of : ℕ → List (List ℕ) → List ℕ
member_of count os = if count == 0 then [] else list_member os

-- the last rows of good lines, up to so many
abbrev pub objects_before : ℕ → List (List ℕ) → List ℕ
objects_before count ls = member_of count (last_of count (objects ls))

-- What is kept of the rows of a trace while it is judged.
use Rattle.std.specs.Prelude.{◌≡◌, ℕ, drop, length, map, nat_le, List, if◌then◌else◌}
use Rattle.qa_violations.specs.around.Rows.{last_of, objects, rows}
use Rattle.qa_violations.specs.declared.around.latest.Latest.{Latest}
use Rattle.qa_violations.specs.declared.around.objects.LatestObjects.{LatestObjects}
use Rattle.qa_violations.specs.declared.around.row.Row.{Row}

-- they, but for the first where there are so many
abbrev pub room_in : {A : Type 0} → ℕ → List A → List A
room_in count rs = if nat_le count (length rs) then drop 1 rs else rs

-- ---- for people

-- the last of these rows are kept
abbrev pub Keeps : Latest → List Row → Type 0
Keeps latest rs = latest.rows.items ≡ last_of latest.count rs

-- those of these lines, up to as many as at first
abbrev pub Covers : List ℕ → Latest → Latest → List (List ℕ) → Type 0
Covers name begun latest ls = (latest.count ≡ begun.count) × Keeps latest (rows ls)

-- ---- for programs

abbrev pub KeepsObjects : LatestObjects → List (List ℕ) → Type 0
KeepsObjects latest os = map (λ object. object.items) latest.objects.items ≡ last_of latest.count os

abbrev pub CoversObjects : List ℕ → LatestObjects → LatestObjects → List (List ℕ) → Type 0
CoversObjects name begun latest ls = (latest.count ≡ begun.count) × KeepsObjects latest (objects ls)

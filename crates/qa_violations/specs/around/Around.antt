-- What is written of the bytes of a trace: why they are refused or cannot be read, and the rows
-- before.
use Rattle.std.specs.Prelude.{◌≡◌, ℕ, Bool, List, [], ◌++◌, Option}
use Rattle.std.specs.Io.KnownBytes.{Appends}
use Rattle.qa_violations.specs.allowed.Lines.{each}
use Rattle.qa_violations.specs.allowed.Rests.{is_strict, rest_behind, unless_quiet}
use Rattle.qa_violations.specs.declared.allowed.told.Told.{Told}
use Rattle.qa_violations.specs.around.Members.{member_of, objects_before}
use Rattle.qa_violations.specs.around.Rows.{rows_before}
use Rattle.qa_violations.specs.declared.around.manner.Manner.{Manner}
use Rattle.qa_check.specs.Audit.{outcome_of}
use Rattle.qa_check.specs.declared.auditing.Outcome.{Outcome}
use Rattle.qa_check.specs.declared.auditing.Outcome.TheVariants as outcomes
use Rattle.qa_format.specs.format.Reading.{reading}
use Rattle.qa_format.specs.verdicts.Verdict.{strict, verdict}
use Rattle.qa_why.specs.Why.{good_lines, whole, why_by}
use Rattle.qa_format.specs.declared.form.Form.{Form}
use Rattle.qa_format.specs.declared.form.Form.TheVariants as forms

-- ---- the rows of good lines, by how the trace ends

-- in a text they stand behind what is told of a trace that is not accepted
abbrev pub rows_behind : Outcome → ℕ → List (List ℕ) → List ℕ
rows_behind outcomes.Accepted count ls = []
rows_behind outcome count ls = rows_before count ls

-- in an object they are its next member, which is an empty list where the trace is accepted
abbrev pub objects_behind : Outcome → ℕ → List (List ℕ) → List ℕ
objects_behind outcomes.Accepted count ls = member_of count []
objects_behind outcome count ls = objects_before count ls

abbrev pub behind : Form → Outcome → ℕ → List (List ℕ) → List ℕ
behind forms.Text outcome count ls = rows_behind outcome count ls
behind forms.Json outcome count ls = objects_behind outcome count ls

-- ---- of bytes

abbrev pub outcome_by : List ℕ → Outcome
outcome_by bytes = outcome_of (verdict (strict reading) bytes)

-- what is told of bytes in a form, what an accepted verdict rests on, and the rows before: a text,
-- or the members of an object
unfoldable pub around_told : ℕ → Form → List ℕ → List ℕ → List ℕ
around_told count form name bytes =
    why_by (strict reading) form name bytes
    ++ rest_behind each form (outcome_by bytes) (good_lines (strict reading) bytes)
    ++ behind form (outcome_by bytes) count (good_lines (strict reading) bytes)

abbrev pub around_text : ℕ → Form → List ℕ → List ℕ → List ℕ
around_text count form name bytes = whole form name (around_told count form name bytes)

-- nothing was allowed at the events before the end
abbrev pub are_strict : List ℕ → Bool
are_strict bytes = is_strict each (good_lines (strict reading) bytes)

-- what is written: where it is to be quiet, nothing of accepted bytes at which nothing was allowed
abbrev pub around_written : Manner → List ℕ → List ℕ → List ℕ
around_written manner name bytes =
    unless_quiet manner.quiet (outcome_by bytes) (are_strict bytes)
    (around_text manner.around manner.form name bytes)

-- it is this, and the kind of their verdict is this
abbrev pub TellsAround : ℕ → Form → List ℕ → Told → List ℕ → Type 0
TellsAround count form name told bytes =
    (told.why.text.items ≡ around_told count form name bytes)
    × (told.why.outcome ≡ outcome_by bytes) × (told.is_strict ≡ are_strict bytes)

-- it was written, and the kind of their verdict is returned
abbrev pub WritesAround : Option (List ℕ) → Option (List ℕ) → Manner → List ℕ → Outcome → List ℕ
    → Type 0
WritesAround held held' manner name outcome bytes =
    Appends held held' (around_written manner name bytes) × (outcome ≡ outcome_by bytes)

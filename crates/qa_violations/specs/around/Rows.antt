-- The rows of the good lines of a trace: of each that is not blank one, by the header and the
-- history up to and with it.
use Rattle.std.specs.Prelude.{ℕ, ◌+◌, ◌-◌, drop, length, List, [], ◌∷◌, ◌++◌, Option, Some, None}
use Rattle.std.specs.Prelude.{Result, Ok}
use Rattle.qa_violations.specs.around.Texts.{rows_text}
use Rattle.qa_violations.specs.declared.around.row.Row.{Row}
use Rattle.qa_base.specs.declared.event.Event.{Event}
use Rattle.qa_base.specs.declared.line_kind.LineKind.{LineKind}
use Rattle.qa_base.specs.declared.line_kind.LineKind.TheVariants as kinds
use Rattle.qa_base.specs.machine.Packets.{history_of}
use Rattle.qa_base.specs.machine.State.{totals}
use Rattle.qa_base.specs.machine.Timer.{deadline}
use Rattle.qa_base.specs.values.Events.{time_of}
use Rattle.qa_base.specs.values.Kinds.{event_kind}
use Rattle.qa_base.specs.values.Settings.{Settings}
use Rattle.qa_format.specs.declared.fault.Fault.{Fault}
use Rattle.qa_format.specs.declared.line.Line.{Line}
use Rattle.qa_format.specs.declared.line.Line.TheVariants as line
use Rattle.qa_format.specs.format.Reading.{reading}
use Rattle.qa_format.specs.verdicts.Verdict.{events_in, header_in}
use Rattle.qa_why.specs.json_rows.Rows.{object}

-- ---- of a line

-- what rows there are of line n, which says this, and behind which the trace has this header and
-- this history
abbrev pub RowsOf : Type 0 → Type 0
RowsOf A = ℕ → Line → Settings → List Event → List A

-- for people: a line of this kind, which has this time
abbrev pub row : ℕ → LineKind → Option ℕ → Settings → List Event → Row
row n kind time c h =
    record { line = n; kind = kind; time = time; totals = totals c h; due = deadline c h }

-- a blank line has none
abbrev pub row_of : RowsOf Row
row_of n line.Blank c h = []
row_of n (line.Header s) c h = row n kinds.Header None c h ∷ []
row_of n (line.Event e) c h = row n (event_kind e) (Some (time_of e)) c h ∷ []

-- for programs: the object that `--rows` writes; a blank line has none
abbrev pub object_of : RowsOf (List ℕ)
object_of n line.Blank c h = []
object_of n (line.Header s) c h = object n (line.Header s) c h ∷ []
object_of n (line.Event e) c h = object n (line.Event e) c h ∷ []

abbrev pub rows_said : {A : Type 0} → RowsOf A → ℕ → Result Line Fault → Option Settings
    → List Event → List A
rows_said of n (Ok l) (Some c) h = of n l c h
rows_said of n said header h = []

-- of a line behind these
abbrev pub rows_on : {A : Type 0} → RowsOf A → List (List ℕ) → List ℕ → List A
rows_on of before l =
    rows_said of (length before + 1) (reading l) (header_in reading (before ++ l ∷ []))
    (history_of (events_in reading (before ++ l ∷ [])))

-- ---- of lines

abbrev pub rows_after : {A : Type 0} → RowsOf A → List (List ℕ) → List (List ℕ) → List A
rows_after of before [] = []
rows_after of before (l ∷ ls) = rows_on of before l ++ rows_after of (before ++ l ∷ []) ls

abbrev pub rows : List (List ℕ) → List Row
rows ls = rows_after row_of [] ls

abbrev pub objects : List (List ℕ) → List (List ℕ)
objects ls = rows_after object_of [] ls

-- the last of them, up to so many
abbrev pub last_of : {A : Type 0} → ℕ → List A → List A
last_of count rs = drop (length rs - count) rs

-- ---- the text

-- the last rows of good lines, up to so many
abbrev pub rows_before : ℕ → List (List ℕ) → List ℕ
rows_before count ls = rows_text (last_of count (rows ls))

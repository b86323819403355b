-- The text that explains a trace: a row for each line that the machine admits, and then the report.
use Rattle.std.specs.Prelude.{ℕ, ◌+◌, List, [], ◌∷◌, ◌++◌, codes, decimal, length, is_some, Option}
use Rattle.std.specs.Prelude.{Some, None, Result, Ok, if◌then◌else◌}
use Rattle.qa_base.specs.declared.event.Event.{Event}
use Rattle.qa_format.specs.declared.fault.Fault.{Fault}
use Rattle.qa_format.specs.declared.line.Line.{Line}
use Rattle.qa_base.specs.declared.line_kind.LineKind.{LineKind}
use Rattle.qa_base.specs.declared.totals.Totals.{Totals}
use Rattle.qa_format.specs.format.Lines.{lines}
use Rattle.qa_base.specs.machine.Packets.{history_of}
use Rattle.qa_base.specs.machine.State.{totals}
use Rattle.qa_format.specs.format.LineKinds.{line_kind}
use Rattle.qa_base.specs.values.Names.{line_kind_name}
use Rattle.qa_base.specs.values.Settings.{Settings}
use Rattle.qa_format.specs.verdicts.Report.{report}
use Rattle.qa_format.specs.verdicts.Verdict.{Judging, header_in, events_in, stop_after, verdict}

-- ---- one row

-- a name and a number behind a space
unfoldable pub number_text : List ℕ → ℕ → List ℕ
number_text name n = codes " " ++ name ++ codes " " ++ decimal n

unfoldable pub state_text : Totals → List ℕ
state_text t =
    number_text (codes "window") t.window
    ++ number_text (codes "bytes_in_flight") t.bytes_in_flight
    ++ number_text (codes "smoothed_rtt") t.smoothed_rtt
    ++ number_text (codes "rttvar") t.rttvar
    ++ number_text (codes "pto_count") t.pto_count
    ++ number_text (codes "owed") t.owed

-- the row of line n, which is of this kind, with the state of the machine after it
unfoldable pub row : ℕ → LineKind → Totals → List ℕ
row n kind t =
    codes "line " ++ decimal n ++ codes " " ++ line_kind_name kind ++ state_text t ++ codes "\n"

-- ---- what is told of lines

-- how a line is told that is not blank: by its number, what it says, and the header and the history
-- that are there with it
abbrev pub Telling : Type 0
Telling = ℕ → Line → Settings → List Event → List ℕ

-- a line that says this; of a blank one nothing is told
abbrev pub told_said : Telling → ℕ → Result Line Fault → Option Settings → List Event → List ℕ
told_said tell n (Ok l) (Some c) h = if is_some (line_kind l) then tell n l c h else []
told_said tell n _ _ h = []

-- a good line with these before it
abbrev pub told_line : Telling → Judging → List (List ℕ) → List ℕ → List ℕ
told_line tell judging before l =
    told_said tell (length before + 1) (judging.says l) (header_in judging.says (before ++ l ∷ []))
    (history_of (events_in judging.says (before ++ l ∷ [])))

-- the lines before the first that is not good, where those before them are
abbrev pub told_after : Telling → Judging → List (List ℕ) → List (List ℕ) → List ℕ
told_after tell judging before [] = []
told_after tell judging before (l ∷ ls) =
    if is_some (stop_after judging before l) then [] else told_line tell judging before l
    ++ told_after tell judging (before ++ l ∷ []) ls

unfoldable pub told_of : Telling → Judging → List (List ℕ) → List ℕ
told_of tell judging ls = told_after tell judging [] ls

-- the lines of bytes
abbrev pub told : Telling → Judging → List ℕ → List ℕ
told tell judging bytes = told_of tell judging (lines bytes)

-- ---- the rows of lines

-- the row of line n, which is of this kind, and after which the trace has this header and this
-- history; a blank line has none
abbrev pub row_of : ℕ → Option LineKind → Settings → List Event → List ℕ
row_of n (Some kind) c h = row n kind (totals c h)
row_of n None c h = []

abbrev pub row_said : Telling
row_said n l c h = row_of n (line_kind l) c h

-- ---- of bytes

abbrev pub rows : Judging → List ℕ → List ℕ
rows judging bytes = told row_said judging bytes

abbrev pub explain : Judging → List ℕ → List ℕ
explain judging bytes = rows judging bytes ++ report (verdict judging bytes)

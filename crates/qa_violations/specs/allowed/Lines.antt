-- What the header allowed on the good lines of a trace.
--
-- `c` are the settings of the header, `h` is the history.
use Rattle.std.specs.Prelude.{ℕ, nat_lt, map, Bool, true, List, [], ◌∷◌, Option, Some, None}
use Rattle.std.specs.Prelude.{if◌then◌else◌}
use Rattle.qa_base.specs.declared.event.Event.{Event}
use Rattle.qa_base.specs.declared.rule.Rule.{Rule}
use Rattle.qa_base.specs.machine.Timer.{Due}
use Rattle.qa_base.specs.values.Settings.{Settings}
use Rattle.qa_format.specs.declared.line.Line.TheVariants as line
use Rattle.qa_violations.specs.allowed.Allowed.{allowed, allowed_by, before, late_by}
use Rattle.qa_violations.specs.around.Rows.{RowsOf, rows_after}
use Rattle.qa_violations.specs.declared.allowed.before.Before.{Before}
use Rattle.qa_violations.specs.declared.allowed.late.Late.{Late}
use Rattle.qa_violations.specs.declared.table.finding.Finding.{Finding}

-- which histories count: those whose latest event is to be told of
abbrev pub Counting : Type 0
Counting = Settings → List Event → Bool

-- each event does
abbrev pub each : Counting
each c h = true

-- what there is of line n, by the header and the history up to its event
abbrev pub RowsBehind : Type 0 → Type 0
RowsBehind A = ℕ → Settings → List Event → List A

-- ---- what was allowed

-- as the table has it
abbrev pub finding_of : ℕ → Rule × ℕ → Finding
finding_of n allowance =
    record { line = n; rule = allowance.0; amount = Some allowance.1 }

abbrev pub findings_of : ℕ → List (Rule × ℕ) → List Finding
findings_of n allowances = map (finding_of n) allowances

-- what an event was allowed, where it counts
abbrev pub findings_if : Bool → ℕ → Settings → Before → Event → List Finding
findings_if counts n c b e = if counts then findings_of n (allowed_by c b e) else []

-- what the latest event of a history was allowed, on line n
abbrev pub latest_allowed : ℕ → Settings → List Event → List Finding
latest_allowed n c [] = []
latest_allowed n c (e ∷ h) = findings_of n (allowed c h e)

-- it, where the event counts
abbrev pub allowed_if : Bool → RowsBehind Finding
allowed_if counts n c h = if counts then latest_allowed n c h else []

abbrev pub allowed_said : Bool → RowsOf Finding
allowed_said counts n (line.Event e) c h = allowed_if counts n c h
allowed_said counts n said c h = []

abbrev pub allowed_on : Counting → RowsOf Finding
allowed_on counts n said c h = allowed_said (counts c h) n said c h

-- all that was allowed on good lines
abbrev pub all_allowed : Counting → List (List ℕ) → List Finding
all_allowed counts ls = rows_after (allowed_on counts) [] ls

-- ---- late timers

-- a timer that was late by so much
abbrev pub late_of : ℕ → Due → ℕ → Late
late_of n due amount =
    record { line = n; kind = due.kind; space = due.space; amount = amount }

-- it, where it was
abbrev pub late_if : ℕ → Option Due → ℕ → List Late
late_if n None amount = []
late_if n (Some due) amount = if nat_lt 0 amount then late_of n due amount ∷ [] else []

abbrev pub lates_by : ℕ → Before → Event → List Late
lates_by n b e = late_if n b.packet_due (late_by b e)

-- where the event counts
abbrev pub late_findings_if : Bool → ℕ → Before → Event → List Late
late_findings_if counts n b e = if counts then lates_by n b e else []

-- the timer before which the latest event of a history should not have come
abbrev pub latest_late : ℕ → Settings → List Event → List Late
latest_late n c [] = []
latest_late n c (e ∷ h) = lates_by n (before c h) e

-- it, where the event counts
abbrev pub lates_if : Bool → RowsBehind Late
lates_if counts n c h = if counts then latest_late n c h else []

abbrev pub lates_said : Bool → RowsOf Late
lates_said counts n (line.Event e) c h = lates_if counts n c h
lates_said counts n said c h = []

abbrev pub lates_on : Counting → RowsOf Late
lates_on counts n said c h = lates_said (counts c h) n said c h

-- all late timers on good lines
abbrev pub all_lates : Counting → List (List ℕ) → List Late
all_lates counts ls = rows_after (lates_on counts) [] ls

-- the later of the two; of equal ones the first
abbrev pub later : Option Late → Late → Late
later None late = late
later (Some first) late = if nat_lt first.amount late.amount then late else first

abbrev pub latest_from : Option Late → List Late → Option Late
latest_from found [] = found
latest_from found (late ∷ lates) = latest_from (Some (later found late)) lates

-- the timer that was the most late, the first of such
abbrev pub most_late : List Late → Option Late
most_late lates = latest_from None lates

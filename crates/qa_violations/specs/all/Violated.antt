-- The violations of a trace from the sender rules.
use Rattle.std.specs.Prelude.{ℕ, ◌+◌, length, map, List, [], ◌∷◌, ◌++◌, Option, Some, None}
use Rattle.qa_violations.specs.all.Tolerating.{violations_of}
use Rattle.qa_violations.specs.declared.all.tolerating.Violation.{Violation}
use Rattle.qa_base.specs.declared.event.Event.{Event}
use Rattle.qa_base.specs.declared.space.TimeUnit.{TimeUnit}
use Rattle.qa_base.specs.declared.space.TimeUnit.TheVariants.{Microseconds}
use Rattle.qa_base.specs.machine.Packets.{history_of}
use Rattle.qa_base.specs.values.Settings.{Settings}
use Rattle.qa_violations.specs.table.Amounts.{amount}
use Rattle.qa_violations.specs.declared.table.finding.Finding.{Finding}
use Rattle.qa_format.specs.format.Reading.{reading}
use Rattle.qa_format.specs.verdicts.Verdict.{event_said, events_in, header_in}

-- an event violates a rule, which this line says behind those before; times are in the unit
pub record Violated : Type 0 where
  pub unit : TimeUnit
  pub line : ℕ
  pub before : List (List ℕ)
  pub bytes : List ℕ
  pub event : Event
  pub violation : Violation

abbrev pub finding_of : Violated → Finding
finding_of d =
    record {
      line = d.line;
      rule = d.violation.rule;
      amount = amount d.event d.violation.rule d.violation.cause;
    }

abbrev pub violated : TimeUnit → ℕ → List (List ℕ) → List ℕ → Event → Violation → Violated
violated u n before l e d =
    record { unit = u; line = n; before = before; bytes = l; event = e; violation = d }

-- what the event of line n violates, behind these lines, a header and a history
abbrev pub violated_at : ℕ → List (List ℕ) → List ℕ → Option Settings → List Event → Option Event
    → List Violated
violated_at n before l (Some c) h (Some e) =
    map (violated c.unit n before l e) (violations_of c h e)
violated_at n before l header h said = []

abbrev pub history_in : List (List ℕ) → List Event
history_in ls = history_of (events_in reading ls)

-- the violations on a line behind these
abbrev pub violated_on : List (List ℕ) → List ℕ → List Violated
violated_on before l =
    violated_at (length before + 1) before l (header_in reading before) (history_in before)
    (event_said (reading l))

abbrev pub violated_after : List (List ℕ) → List (List ℕ) → List Violated
violated_after before [] = []
violated_after before (l ∷ ls) = violated_on before l ++ violated_after (before ++ l ∷ []) ls

-- all violations on good lines
abbrev pub all_violated : List (List ℕ) → List Violated
all_violated ls = violated_after [] ls

abbrev pub findings : List Violated → List Finding
findings ds = map finding_of ds

-- the unit of times; microseconds where there is no header
abbrev pub unit_of : Option Settings → TimeUnit
unit_of None = Microseconds
unit_of (Some c) = c.unit

-- the lines before the first violation, or all
abbrev pub lines_before : List Violated → List (List ℕ) → List (List ℕ)
lines_before [] ls = ls
lines_before (d ∷ ds) ls = d.before

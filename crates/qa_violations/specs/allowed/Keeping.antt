-- What is kept of what a header allowed while a trace is judged.
use Rattle.std.specs.Prelude.{◌≡◌, ℕ, List, [], Option, Some, None}
use Rattle.qa_base.specs.declared.event.Event.{Event}
use Rattle.qa_base.specs.machine.Packets.{history_of}
use Rattle.qa_base.specs.machine.Timer.{time_of_moment}
use Rattle.qa_base.specs.values.Settings.{Settings}
use Rattle.std.specs.Option.{option_or}
use Rattle.qa_format.specs.declared.line.Line.{Line}
use Rattle.qa_format.specs.declared.line.Line.TheVariants as line
use Rattle.qa_format.specs.format.Reading.{reading}
use Rattle.qa_format.specs.verdicts.Verdict.{events_in, header_in}
use Rattle.qa_violations.specs.allowed.Allowed.{before}
use Rattle.qa_violations.specs.allowed.Lines.{Counting, all_allowed, all_lates, each, most_late}
use Rattle.qa_violations.specs.declared.allowed.allowances.Allowances.{Allowances}
use Rattle.qa_violations.specs.declared.allowed.late.Late.{Late}
use Rattle.qa_violations.specs.declared.allowed.tally.Tally.{Tally}
use Rattle.qa_violations.specs.declared.table.finding.Finding.{Finding}
use Rattle.qa_violations.specs.table.Table.{Holds}

-- it was told of these findings and these late timers
abbrev pub Tallies : Tally → List Finding → List Late → Type 0
Tallies t fs lates = Holds t.table fs × (t.latest ≡ most_late lates)

-- it has what is asked before the next event; without a header there is no event
abbrev pub IsAt : Allowances → Option Settings → List Event → Type 0
IsAt a None h = (a.header ≡ None) × (a.time ≡ None) × (h ≡ [])
IsAt a (Some c) h =
    (a.header ≡ Some c) × (a.before ≡ before c h) × (a.time ≡ time_of_moment h)

-- behind this header and a line that says this, the header of the trace is that
abbrev pub IsHeaderAfter : Option Settings → Line → Settings → Type 0
IsHeaderAfter old (line.Header s) c = option_or old (Some s) ≡ Some c
IsHeaderAfter old said c = old ≡ Some c

-- it was shown these lines, and was told of what was allowed at the events that count
abbrev pub CoversWhere : Counting → Allowances → List (List ℕ) → Type 0
CoversWhere counts a ls =
    IsAt a (header_in reading ls) (history_of (events_in reading ls))
    × Tallies a.tally (all_allowed counts ls) (all_lates counts ls)

-- at each event
abbrev pub Covers : List ℕ → Allowances → Allowances → List (List ℕ) → Type 0
Covers name begun a ls = CoversWhere each a ls

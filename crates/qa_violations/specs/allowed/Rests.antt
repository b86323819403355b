-- What an accepted verdict rests on, of good lines.
use Rattle.std.specs.Prelude.{ℕ, Bool, true, false, List, [], Option, Some, None}
use Rattle.qa_base.specs.declared.event.Event.{Event}
use Rattle.qa_base.specs.machine.Loss.{bytes_in_flight}
use Rattle.qa_base.specs.machine.Packets.{history_of}
use Rattle.qa_base.specs.machine.Timer.{deadline, time_of_moment}
use Rattle.qa_base.specs.values.Settings.{Settings}
use Rattle.qa_check.specs.declared.auditing.Outcome.{Outcome}
use Rattle.qa_check.specs.declared.auditing.Outcome.TheVariants as outcomes
use Rattle.qa_format.specs.declared.form.Form.{Form}
use Rattle.qa_format.specs.declared.form.Form.TheVariants as forms
use Rattle.qa_format.specs.format.Reading.{reading}
use Rattle.qa_format.specs.verdicts.Verdict.{events_in, header_in}
use Rattle.qa_violations.specs.allowed.Lines.{Counting, all_allowed, all_lates, most_late}
use Rattle.qa_violations.specs.allowed.Members.{rest_members}
use Rattle.qa_violations.specs.allowed.Texts.{rest_text}
use Rattle.qa_violations.specs.declared.allowed.late.Late.{Late}
use Rattle.qa_violations.specs.declared.table.finding.Finding.{Finding}
use Rattle.qa_violations.specs.table.Table.{is_nil, table}
use Rattle.qa_why.specs.Why.{unless_accepted}
use Rattle.qa_why.specs.caveats.Caveats.{guessed_in}
use Rattle.qa_why.specs.declared.caveats.guesses.Guessed.{Guessed}

-- behind this header and this history, where this was allowed and so much guessed; nothing before
-- a header
abbrev pub rest_of : Form → Option Settings → List Event → List Finding → List Late → Guessed
    → List ℕ
rest_of form None h fs lates guessed = []
rest_of forms.Text (Some c) h fs lates guessed =
    rest_text c (table fs) (most_late lates) guessed (bytes_in_flight c h) (deadline c h)
rest_of forms.Json (Some c) h fs lates guessed =
    rest_members c (table fs) guessed (time_of_moment h) (bytes_in_flight c h) (deadline c h)

-- of good lines, of whose events these count
abbrev pub rest : Counting → Form → List (List ℕ) → List ℕ
rest counts form ls =
    rest_of form (header_in reading ls) (history_of (events_in reading ls)) (all_allowed counts ls)
    (all_lates counts ls) (guessed_in ls)

-- it is told where the trace is accepted
abbrev pub rest_behind : Counting → Form → Outcome → List (List ℕ) → List ℕ
rest_behind counts form outcomes.Accepted ls = rest counts form ls
rest_behind counts form outcome ls = []

-- ---- to be quiet

-- nothing was allowed on these lines
abbrev pub is_strict : Counting → List (List ℕ) → Bool
is_strict counts ls = is_nil (all_allowed counts ls)

-- the text; where it is to be quiet, nothing of an accepted trace at which nothing was allowed
abbrev pub unless_quiet : Bool → Outcome → Bool → List ℕ → List ℕ
unless_quiet quiet outcome true text = unless_accepted quiet outcome text
unless_quiet quiet outcome false text = text

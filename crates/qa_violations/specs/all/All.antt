-- What is told of all violations of a trace from the sender rules.
use Rattle.std.specs.Prelude.{◌≡◌, ℕ, codes, length, Bool, List, [], ◌∷◌, ◌++◌, Option}
use Rattle.std.specs.Prelude.{if◌then◌else◌}
use Rattle.std.specs.Io.KnownBytes.{Appends}
use Rattle.qa_violations.specs.all.Violated.{Violated, all_violated, finding_of, findings}
use Rattle.qa_violations.specs.all.Violated.{history_in, unit_of}
use Rattle.qa_violations.specs.all.Objects.{tolerated_run_members}
use Rattle.qa_violations.specs.all.Tolerating.{unviolated}
use Rattle.qa_violations.specs.allowed.Rests.{is_strict, rest_behind, unless_quiet}
use Rattle.qa_violations.specs.around.Around.{rows_behind}
use Rattle.qa_violations.specs.around.Rows.{rows_before}
use Rattle.qa_violations.specs.declared.around.manner.Manner.{Manner}
use Rattle.qa_base.specs.declared.space.TimeUnit.{TimeUnit}
use Rattle.qa_base.specs.machine.Violations.{first_untolerated}
use Rattle.qa_check.specs.Audit.{outcome_of}
use Rattle.qa_check.specs.declared.auditing.Outcome.{Outcome}
use Rattle.qa_check.specs.declared.auditing.Outcome.TheVariants.{Accepted, Refused}
use Rattle.qa_violations.specs.table.Table.{are_known}
use Rattle.qa_violations.specs.table.Texts.{table_text}
use Rattle.qa_violations.specs.declared.table.finding.Finding.{Finding}
use Rattle.qa_format.specs.format.Reading.{reading}
use Rattle.qa_format.specs.verdicts.Verdict.{Judging, header_in, verdict}
use Rattle.qa_check.specs.names.Names.{shown_name}
use Rattle.qa_why.specs.Texts.{broken_text}
use Rattle.qa_why.specs.Why.{good_lines, whole, why_by}
use Rattle.qa_format.specs.declared.form.Form.{Form}
use Rattle.qa_format.specs.declared.form.Form.TheVariants.{Json, Text}

-- how a trace is judged: an event ends it by the first rule that it breaks and past which the
-- machine does not go on
abbrev pub past_sender_rules : Judging
past_sender_rules = record { says = reading; breaks = first_untolerated }

-- ---- what is told of them

-- of a violation, and the last rows before its line, up to so many
abbrev pub violated_text : ℕ → List ℕ → Violated → List ℕ
violated_text count name d =
    broken_text (codes "departure") name d.line d.unit d.violation.rule d.event d.violation.cause
    d.bytes
    ++ rows_before count d.before

-- it is told of a violation, where none of its kind was found before
abbrev pub first_text : ℕ → List ℕ → List Finding → Violated → List ℕ
first_text count name before d =
    if are_known 1 d.violation.rule before then [] else violated_text count name d

abbrev pub firsts_after : ℕ → List ℕ → List Finding → List Violated → List ℕ
firsts_after count name before [] = []
firsts_after count name before (d ∷ ds) =
    first_text count name before d ++ firsts_after count name (before ++ finding_of d ∷ []) ds

-- the first violation of each kind
abbrev pub firsts : ℕ → List ℕ → List Violated → List ℕ
firsts count name ds = firsts_after count name [] ds

-- ---- the table

-- the table behind the name; nothing where there is no violation
abbrev pub table_of : List ℕ → TimeUnit → ℕ → List Finding → List ℕ
table_of name unit events [] = []
table_of name unit events (f ∷ fs) = shown_name name ++ table_text unit events (f ∷ fs)

-- ---- the end

-- what is told of the end: nothing where the trace violates rules and is accepted but for that
abbrev pub end_of : List Finding → Outcome → List ℕ → List ℕ
end_of [] outcome text = text
end_of (f ∷ fs) Accepted text = []
end_of (f ∷ fs) outcome text = text

-- a trace that violates a rule is not accepted
abbrev pub outcome_with : List Finding → Outcome → Outcome
outcome_with [] outcome = outcome
outcome_with (f ∷ fs) Accepted = Refused
outcome_with (f ∷ fs) outcome = outcome

-- ---- the whole

-- of good lines, with how the trace ends and what is told of that, and the rows before
abbrev pub tolerated_run_text : ℕ → List ℕ → List (List ℕ) → Outcome → List ℕ → List ℕ
tolerated_run_text count name ls outcome text =
    firsts count name (all_violated ls)
    ++ end_of (findings (all_violated ls)) outcome (text ++ rows_behind outcome count ls)
    ++ table_of name (unit_of (header_in reading ls)) (length (history_in ls))
    (findings (all_violated ls))

-- the same in a form: a text, or the members of an object; and what an accepted end rests on,
-- behind all of the text, and behind the members that tell of the end
abbrev pub tolerated_run_in : ℕ → Form → List ℕ → List (List ℕ) → Outcome → List ℕ → List ℕ
tolerated_run_in count Text name ls outcome told =
    tolerated_run_text count name ls outcome told ++ rest_behind unviolated Text outcome ls
tolerated_run_in count Json name ls outcome told =
    tolerated_run_members count ls outcome (told ++ rest_behind unviolated Json outcome ls)

-- of bytes, under the name of their file
unfoldable pub told_by : ℕ → Form → List ℕ → List ℕ → List ℕ
told_by count form name bytes =
    tolerated_run_in count form name (good_lines past_sender_rules bytes)
    (outcome_of (verdict past_sender_rules bytes)) (why_by past_sender_rules form name bytes)

abbrev pub all_text : ℕ → Form → List ℕ → List ℕ → List ℕ
all_text count form name bytes = whole form name (told_by count form name bytes)

unfoldable pub all_outcome : List ℕ → Outcome
all_outcome bytes =
    outcome_with (findings (all_violated (good_lines past_sender_rules bytes)))
    (outcome_of (verdict past_sender_rules bytes))

-- nothing was allowed at the events that violate nothing
unfoldable pub all_strict : List ℕ → Bool
all_strict bytes = is_strict unviolated (good_lines past_sender_rules bytes)

-- what is written: where it is to be quiet, nothing of accepted bytes at which nothing was allowed
abbrev pub all_written : Manner → List ℕ → List ℕ → List ℕ
all_written manner name bytes =
    unless_quiet manner.quiet (all_outcome bytes) (all_strict bytes)
    (all_text manner.around manner.form name bytes)

-- it was written, and the kind of the verdict is returned
abbrev pub WritesAll : Option (List ℕ) → Option (List ℕ) → Manner → List ℕ → Outcome → List ℕ
    → Type 0
WritesAll held held' manner name outcome bytes =
    Appends held held' (all_written manner name bytes) × (outcome ≡ all_outcome bytes)

-- What is told of all violations of a trace as the members of a JSON object.
use Rattle.std.specs.Prelude.{ℕ, codes, decimal, length, List, [], ◌∷◌, ◌++◌, if◌then◌else◌}
use Rattle.json.specs.Token.{Token}
use Rattle.json.specs.Token as token
use Rattle.qa_violations.specs.all.Violated.{Violated, all_violated, findings, history_in, unit_of}
use Rattle.qa_violations.specs.around.Around.{objects_behind}
use Rattle.qa_violations.specs.around.Members.{objects_before}
use Rattle.qa_base.specs.declared.rule.Rule.{Rule}
use Rattle.qa_base.specs.declared.space.TimeUnit.{TimeUnit}
use Rattle.qa_check.specs.declared.auditing.Outcome.{Outcome}
use Rattle.qa_violations.specs.table.Table.{are_known, is_found, table}
use Rattle.qa_violations.specs.table.Members.{counts, greatest_at}
use Rattle.qa_violations.specs.declared.table.finding.Finding.{Finding}
use Rattle.qa_violations.specs.declared.table.row.Row.{Row}
use Rattle.qa_format.specs.format.Reading.{reading}
use Rattle.qa_format.specs.verdicts.Verdict.{header_in}
use Rattle.qa_explain.specs.members.Object.{closed, list_begin, list_end, number_at, opened}
use Rattle.qa_explain.specs.members.Object.{text_of_all}
use Rattle.qa_why.specs.Objects.{refused_members, rule_members}

-- ---- the first violation

-- what is told of the first violation of a trace
abbrev pub first_members : List Violated → List ℕ
first_members [] = []
first_members (d ∷ ds) = refused_members d.unit d.line d.violation.rule d.event d.violation.cause

-- ---- which lines are named

-- a violation's line is named, where fewer than a thousand of its kind were found before
abbrev pub named_behind : List Finding → Finding → List Finding
named_behind before f = if are_known 1000 f.rule before then [] else f ∷ []

abbrev pub named_after : List Finding → List Finding → List Finding
named_after before [] = []
named_after before (f ∷ fs) = named_behind before f ++ named_after (before ++ f ∷ []) fs

-- the first thousand of each kind
abbrev pub named : List Finding → List Finding
named fs = named_after [] fs

-- ---- a kind of violations

-- the lines of those of the kind
abbrev pub lines_of : Rule → List Finding → List Token
lines_of r [] = []
lines_of r (f ∷ fs) =
    (if is_found r f then token.number (decimal f.line) ∷ [] else []) ++ lines_of r fs

abbrev pub lines_member : Rule → List Finding → List Token
lines_member r fs = list_begin (codes "lines") ++ lines_of r fs ++ list_end

unfoldable pub row_object : TimeUnit → List Finding → Row → List Token
row_object u fs row =
    opened ++ rule_members row.rule ++ counts row ++ greatest_at u row.rule row.greatest
    ++ lines_member row.rule fs ++ closed

abbrev pub row_objects : TimeUnit → List Finding → List Row → List Token
row_objects u fs [] = []
row_objects u fs (row ∷ rows) = row_object u fs row ++ row_objects u fs rows

-- ---- all of them

-- how many events were followed, and an object for each kind
unfoldable pub rows_members : TimeUnit → ℕ → List Finding → List Row → List ℕ
rows_members u events fs rows =
    text_of_all (number_at (codes "events") events ++ list_begin (codes "departures")
    ++ row_objects u fs rows ++ list_end)

abbrev pub table_members : TimeUnit → ℕ → List Finding → List ℕ
table_members u events fs = rows_members u events (named fs) (table fs)

-- how a trace ends, that violates nothing
unfoldable pub members_of_none : List ℕ → List ℕ
members_of_none end = end ++ codes ",\"departures\":[]"

-- the first violation, all of them, and how the trace ends past them
unfoldable pub members_of_some : List ℕ → List ℕ → List ℕ → List ℕ
members_of_some first all end = first ++ codes "," ++ all ++ codes ",\"end\":{" ++ end ++ codes "}"

-- of these violations on good lines, with how the trace ends and what is told of that; the rows
-- before the first violation, or before the end, are the member behind
abbrev pub members_of : ℕ → TimeUnit → ℕ → List Violated → List (List ℕ) → Outcome → List ℕ → List ℕ
members_of count u events [] ls outcome end =
    members_of_none (end ++ objects_behind outcome count ls)
members_of count u events (d ∷ ds) ls outcome end =
    members_of_some (first_members (d ∷ ds) ++ objects_before count d.before)
    (table_members u events (findings (d ∷ ds))) end

abbrev pub tolerated_run_members : ℕ → List (List ℕ) → Outcome → List ℕ → List ℕ
tolerated_run_members count ls outcome end =
    members_of count (unit_of (header_in reading ls)) (length (history_in ls))
    (all_violated ls) ls outcome end

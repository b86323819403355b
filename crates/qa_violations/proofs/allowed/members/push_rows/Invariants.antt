use Rattle.std.proofs.Common.{◌≡◌, ◌++◌, drop, filter}
use Rattle.qa_violations.specs.allowed.Members.{row_objects}
use Rattle.qa_violations.specs.table.Table.{has_findings}
use Rattle.qa_violations.proofs.allowed.members.push_rows.Given as goal

abbrev pub invariant-loop-row : goal.invariant-loop-row
invariant-loop-row l =
    l.object ++ row_objects l.unit l.options (filter has_findings (drop l.row-index l.rows))
    ≡ l.initial.object ++ row_objects l.unit l.options (filter has_findings l.rows)

use Rattle.std.proofs.Common.{◌≡◌, ◌++◌, drop, filter}
use Rattle.qa_violations.specs.all.Objects.{row_objects}
use Rattle.qa_violations.specs.table.Table.{has_findings}
use Rattle.qa_violations.proofs.all.objects.push_rows.Given as goal

abbrev pub invariant-loop-row : goal.invariant-loop-row
invariant-loop-row l =
    l.object ++ row_objects l.unit l.named (filter has_findings (drop l.row-index l.rows)) ≡ l.initial.object ++ row_objects l.unit l.named (filter has_findings l.rows)

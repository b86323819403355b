use Rattle.std.proofs.Common.{◌≡◌, ◌++◌, drop, filter, map}
use Rattle.qa_violations.specs.allowed.Items.{item_of}
use Rattle.qa_violations.specs.table.Table.{has_findings}
use Rattle.qa_violations.proofs.allowed.items.found.Given as goal

abbrev pub invariant-loop-row : goal.invariant-loop-row
invariant-loop-row l =
    l.found.items ++ map (item_of l.unit l.options) (filter has_findings (drop l.row-index l.rows))
    ≡ map (item_of l.unit l.options) (filter has_findings l.rows)

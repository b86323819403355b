use Rattle.std.proofs.Common.{◌≡◌, ◌++◌, drop, string_bytes, filter}
use Rattle.qa_violations.specs.allowed.Texts.{rows_text}
use Rattle.qa_violations.specs.table.Table.{has_findings}
use Rattle.qa_violations.proofs.allowed.texts.push_rows.Given as goal

abbrev pub invariant-loop-row : goal.invariant-loop-row
invariant-loop-row l =
    string_bytes l.out ++ rows_text l.unit l.options l.latest (filter has_findings (drop l.row-index l.rows))
    ≡ string_bytes l.initial.out ++ rows_text l.unit l.options l.latest (filter has_findings l.rows)

use Rattle.std.proofs.Common.{◌≡◌, ◌++◌, drop, take}
use Rattle.qa_violations.specs.table.Steps.{all_after}
use Rattle.qa_violations.proofs.table.row.note_in.Given as goal

abbrev pub invariant-loop-row : goal.invariant-loop-row
invariant-loop-row l = take l.row-index l.rows ++ all_after l.finding (drop l.row-index l.rows) ≡ all_after l.finding l.initial.rows

use Rattle.std.proofs.Common.{List, ◌++◌, take}
use Rattle.qa_violations.specs.allowed.Allowed.{fields, metrics_beyond}
use Rattle.qa_violations.specs.allowed.Lines.{findings_of}
use Rattle.qa_violations.specs.declared.table.finding.Finding.{Finding}
use Rattle.qa_violations.specs.table.Table.{Holds}
use Rattle.qa_violations.proofs.allowed.tally.note_metrics.Given as goal

abbrev pub invariant-loop-field : goal.invariant-loop-field
invariant-loop-field l =
    (fs : List Finding) → Holds l.initial.table fs → Holds l.table (fs ++ findings_of l.line (metrics_beyond l.header l.values l.held (take l.field-index fields)))

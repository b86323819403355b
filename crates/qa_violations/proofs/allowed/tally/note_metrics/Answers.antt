use Rattle.std.proofs.Common.{◌++◌, List, ap, get_or, take}
use Rattle.qa_base.specs.declared.rule.Field.{Field}
use Rattle.qa_base.specs.declared.rule.Field.TheVariants as field
use Rattle.qa_violations.proofs.allowed_lemmas.Notes.{holds_field}
use Rattle.qa_violations.specs.allowed.Allowed.{fields, metrics_beyond}
use Rattle.qa_violations.specs.allowed.Lines.{findings_of}
use Rattle.qa_violations.proofs.allowed.tally.note_metrics.Goals as goal

pub loop-field-preserved : goal.loop-field-preserved
loop-field-preserved c = λ fs holds.
    let i = c.loop-field.field-index in
    let n = c.args.line in
    let found = findings_of n (metrics_beyond c.args.header.now c.args.values.now c.args.held.now (take i fields)) in
    let noted = c.note_beyond.ensures (fs ++ found) (c.loop-field.invariant fs holds) in
    holds_field c.note_beyond.new.table fs n c.args.header.now c.args.values.now c.args.held.now fields i (get_or c.fields-fields.result i field.Window) field.Window c.loop-field-test.true
    (ap (λ (xs : List Field). get_or xs i field.Window) c.fields-fields.ensures) (rw c.metric_off-amount.ensures at noted)

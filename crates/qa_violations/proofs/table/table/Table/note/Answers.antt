use Rattle.std.proofs.Common.{◌∙◌, sym, ap}
use Rattle.qa_violations.specs.table.Steps.{all_after, one_more}
use Rattle.qa_violations.proofs.table_lemmas.Noted.{count_noted, rows_noted}
use Rattle.qa_violations.proofs.table.table.Table.note.Goals as goal

pub returns-clause-holds : goal.returns-clause-holds
returns-clause-holds c fs holds = (
  c.saturating_add-self.ensures ∙ (ap one_more holds.0 ∙ sym (count_noted fs c.args.finding.now)),
  c.note_in.ensures ∙ (ap (all_after c.args.finding.now) holds.1 ∙ rows_noted c.args.finding.now fs),
)

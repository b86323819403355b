use Rattle.std.proofs.Common.{◌∙◌, List, ap, length}
use Rattle.qa_base.proofs.machine.Histories.{length-history_of}
use Rattle.qa_base.specs.declared.event.Event.{Event}
use Rattle.qa_base.specs.declared.totals.Totals.{Totals}
use Rattle.qa_reference.proofs.whole.WholeLedger.totals.Goals as goal

pub returns-clause-events : goal.returns-clause-events
returns-clause-events c = rw (← c.self.view_is) (ap (λ (t : Totals). t.events) c.totals.ensures ∙ (length-history_of _ ∙ ap (λ (es : List Event). length es) c.deref.ensures.value))

use Rattle.qa_laws.proofs.machine.Marks as lemmas
use Rattle.qa_laws.proofs.definitions.order_decides_at_one_time.Goals as goal

pub returns : goal.returns
returns c = record {
  compared = lemmas.order_is_time;
  recovery = lemmas.recovery_is_by_time;
  later = lemmas.later_by_time;
}

use Rattle.std.proofs.Common.{refl}
use Rattle.qa_recovery.proofs.rtt.Rtt.loss_delay.Goals as goal

-- Written out, so that a wrong body is refused at this line.
pub returns-clause-value : goal.returns-clause-value
returns-clause-value c = rw (← c.self.view_is, c.max.ensures, c.max-rtt.ensures, c.get.ensures.value, c.get-2.ensures.value, c.get-3.ensures.value, c.time_threshold_eighths.ensures.value, c.granularity.ensures) refl

use Rattle.std.proofs.Common.{refl}
use Rattle.qa_recovery.proofs.rtt.Rtt.persistent_after.Goals as goal

-- Written out, so that a wrong body is refused at this line.
pub returns-clause-value : goal.returns-clause-value
returns-clause-value c = rw (c.pto_base.ensures.value, c.get.ensures.value) refl

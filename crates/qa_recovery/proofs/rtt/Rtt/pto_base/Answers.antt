use Rattle.std.proofs.Common.{rules}
use Rattle.qa_recovery.proofs.rtt.Rtt.pto_base.Goals as goal

-- Written out, so that a wrong body is refused at this line.
pub returns-clause-value : goal.returns-clause-value
returns-clause-value c = search rules

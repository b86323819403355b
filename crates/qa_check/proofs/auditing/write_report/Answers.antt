use Rattle.std.proofs.Common.{refl, rules}
use Rattle.qa_check.proofs.Faults.{memory_not_write}
use Rattle.qa_check.proofs.auditing.write_report.Goals as goal

-- Written out, so that a wrong body is refused at these lines.
pub returns-in_default : goal.returns-in_default
returns-in_default g c = record { ok = tt; begun = λ is. absurd (memory_not_write _ refl is); unwritten = λ other. refl; read = refl; failures = refl }

pub returns-clause-ok : goal.returns-clause-ok
returns-clause-ok g c = search rules

pub returns-clause-failures : goal.returns-clause-failures
returns-clause-failures g c = c.in_ok-write_whole.ensures.failures

use Rattle.std.proofs.Common.{rules}
use Rattle.qa_recovery.proofs.reno.Reno.is_outside_recovery.Goals as goal

-- Written out, so that a wrong body is refused at this line.
pub returns-in-Some : goal.returns-in-Some
returns-in-Some c = search rules

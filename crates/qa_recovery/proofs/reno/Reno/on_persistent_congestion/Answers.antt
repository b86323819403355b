use Rattle.std.proofs.Common.{rules}
use Rattle.qa_recovery.proofs.reno.Reno.on_persistent_congestion.Goals as goal

-- Written out, so that a wrong body is refused at this line.
pub returns : goal.returns
returns c = search rules

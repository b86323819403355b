use Rattle.std.proofs.Common.{refl}
use Rattle.qa_recovery.proofs.rtt.Rtt.refresh.Goals as goal

-- Written out, so that a wrong body is refused at this line.
pub returns : goal.returns
returns c = rw (← c.self.view_is) refl

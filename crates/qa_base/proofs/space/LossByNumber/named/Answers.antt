use Rattle.std.proofs.Common.{refl}
use Rattle.qa_base.proofs.space.LossByNumber.named.Goals as goal

-- Written out, so that a wrong body is refused at this line.
pub returns-in-may : goal.returns-in-may
returns-in-may c = rw c.in-may.is refl

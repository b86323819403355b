use Rattle.std.proofs.Common.{refl}
use Rattle.qa_base.proofs.space.LossByNumber.name.Goals as goal

-- Written out, so that a wrong body is refused at this line.
pub returns-in-May : goal.returns-in-May
returns-in-May c = rw c.in-May.is refl

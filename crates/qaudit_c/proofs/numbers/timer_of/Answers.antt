use Rattle.std.proofs.Common.{refl}
use Rattle.qaudit_c.proofs.numbers.timer_of.Goals as goal

-- Written out, so that a wrong body is refused at this line.
pub returns-in-1 : goal.returns-in-1
returns-in-1 c = rw c.in-1.is refl

use Rattle.std.proofs.Common.{refl}
use Rattle.qaudit_c.proofs.numbers.rule_of.Goals as goal

-- Written out, so that a wrong body is refused at this line.
pub returns-in-7 : goal.returns-in-7
returns-in-7 c = rw c.in-7.is refl

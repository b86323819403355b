use Rattle.std.proofs.Common.{refl}
use Rattle.qaudit_c.proofs.telling.for_c.Goals as goal

-- Written out, so that a wrong body is refused at this line.
pub returns-in-Refused : goal.returns-in-Refused
returns-in-Refused c = rw (c.in-Refused.is, c.rule_number.ensures, c.rule_subject.ensures, c.told_totals-in-Refused.ensures) refl

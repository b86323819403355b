use Rattle.std.proofs.Common.{refl}
use Rattle.qaudit_c.proofs.calls.hand_open.Goals as goal

-- Written out, so that a wrong body is refused at this line.
pub returns-then-not-is_between_lines-clause-inside : goal.returns-then-not-is_between_lines-clause-inside
returns-then-not-is_between_lines-clause-inside c _ = (refl, refl)

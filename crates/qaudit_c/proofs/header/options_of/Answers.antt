use Rattle.std.proofs.Common.{refl}
use Rattle.qaudit_c.proofs.header.options_of.Goals as goal

-- Written out, so that a wrong body is refused at this line.
pub returns : goal.returns
returns c = rw (c.given.ensures, c.threshold_of.ensures, c.eighths_of.ensures) refl

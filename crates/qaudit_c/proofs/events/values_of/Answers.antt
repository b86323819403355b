use Rattle.std.proofs.Common.{refl}
use Rattle.qaudit_c.proofs.events.values_of.Goals as goal

-- Written out, so that a wrong body is refused at this line.
pub returns : goal.returns
returns c = rw (c.given.ensures, c.given-2.ensures, c.given-3.ensures, c.given-4.ensures, c.given-5.ensures, c.given-6.ensures, c.given-7.ensures) refl

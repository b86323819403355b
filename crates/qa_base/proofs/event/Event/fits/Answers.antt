use Rattle.std.proofs.Common.{rules}
use Rattle.qa_base.proofs.event.Event.fits.Goals as goal

-- Written out, so that a wrong body is refused at this line.
pub returns-then-not-packet : goal.returns-then-not-packet
returns-then-not-packet c = search rules

use Rattle.std.proofs.Common.{refl}
use Rattle.qa_recovery.proofs.rtt.Rtt.start.Goals as goal

-- Written out, so that a wrong body is refused at this line.
pub returns : goal.returns
returns c = rw (c.of-none.ensures, c.of.ensures, c.get.ensures.value) refl

use Rattle.std.proofs.Common.{refl}
use Rattle.qa_base.proofs.due.Due.probe_timeout.Goals as goal

-- Written out, so that a wrong body is refused at this line.
pub returns : goal.returns
returns c = rw (c.from.ensures, c.get.ensures.value, c.doubled.ensures.value) refl

use Rattle.std.proofs.Common.{refl}
use Rattle.qa_base.proofs.header.Header.granularity.Goals as goal

-- Written out, so that a wrong body is refused at this line.
pub returns : goal.returns
returns c = rw (← c.self.view_is, c.of.ensures, c.per_microsecond.ensures.value) refl

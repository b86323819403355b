use Rattle.std.proofs.Common.{refl}
use Rattle.qa_base.proofs.space.TimeUnit.of_microseconds.Goals as goal

-- Written out, so that a wrong body is refused at this line.
pub returns : goal.returns
returns c = rw (c.from.ensures, c.from-2.ensures, c.per_microsecond.ensures.value) refl

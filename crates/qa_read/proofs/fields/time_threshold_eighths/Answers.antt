use Rattle.std.proofs.Common.{refl}
use Rattle.qa_read.proofs.fields.time_threshold_eighths.Goals as goal

-- Written out, so that a wrong body is refused at this line.
pub returns-in-None : goal.returns-in-None
returns-in-None c = rw (← c.in-None.ensures) refl

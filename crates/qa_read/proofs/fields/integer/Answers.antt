use Rattle.std.proofs.Common.{refl}
use Rattle.qa_read.proofs.fields.integer.Goals as goal

-- Written out, so that a wrong body is refused at this line.
pub returns : goal.returns
returns c = rw (c.ok_or.ensures.value, c.as_u64.ensures) refl

use Rattle.std.proofs.Common.{refl}
use Rattle.qa_base.proofs.header.default_window.Goals as goal

-- Written out, so that a wrong body is refused at this line.
pub returns : goal.returns
returns c = rw (c.min.ensures, c.max-most.ensures) refl

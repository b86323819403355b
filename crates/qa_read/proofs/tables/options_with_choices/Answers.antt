use Rattle.std.proofs.Common.{refl}
use Rattle.qa_read.proofs.tables.options_with_choices.Goals as goal

-- Written out, so that a wrong body is refused at this line.
pub returns : goal.returns
returns c = rw (← c.in_ok-machine.ensures, c.default.ensures) refl

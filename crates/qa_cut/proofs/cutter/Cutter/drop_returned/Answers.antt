use Rattle.std.proofs.Common.{rules}
use Rattle.qa_cut.proofs.cutter.Cutter.drop_returned.Goals as goal

-- Written out, so that a wrong body is refused at this line.
pub returns-then-self-gt0 : goal.returns-then-self-gt0
returns-then-self-gt0 c = search rules

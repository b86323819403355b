use Rattle.std.proofs.Common.{rules}
use Rattle.qa_base.proofs.header.Header.in_unit.Goals as goal

-- Written out, so that a wrong body is refused at this line.
pub returns-then-initial_rtt-lt1 : goal.returns-then-initial_rtt-lt1
returns-then-initial_rtt-lt1 c = search rules

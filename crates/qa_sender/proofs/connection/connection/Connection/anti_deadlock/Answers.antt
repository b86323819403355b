use Rattle.std.proofs.Common.{rules}
use Rattle.qa_sender.proofs.connection.connection.Connection.anti_deadlock.Goals as goal

-- Written out, so that a wrong body is refused at this line.
pub returns-then-is_validated : goal.returns-then-is_validated
returns-then-is_validated c = search rules

pub returns : goal.returns
returns c = search rules

use Rattle.std.proofs.Common.{rules}
use Rattle.qa_sender.proofs.watch.TimerWatch.set.Goals as goal

-- Written out, so that a wrong body is refused at this line.
pub returns-clause-since : goal.returns-clause-since
returns-clause-since c = search rules

use Rattle.std.proofs.Common.{rules}
use Rattle.qa_commands.proofs.commanding.command.Goals as goal

pub returns-in-Ok-Check-clause-ended : goal.returns-in-Ok-Check-clause-ended
returns-in-Ok-Check-clause-ended g c = search rules

pub returns-in-Ok-Check-clause-unread : goal.returns-in-Ok-Check-clause-unread
returns-in-Ok-Check-clause-unread g c = search rules

pub returns-in-Ok-Explain-clause-ended : goal.returns-in-Ok-Explain-clause-ended
returns-in-Ok-Explain-clause-ended g c = search rules

pub returns-in-Ok-Explain-clause-unread : goal.returns-in-Ok-Explain-clause-unread
returns-in-Ok-Explain-clause-unread g c = search rules

pub returns-in-Err-clause-ended : goal.returns-in-Err-clause-ended
returns-in-Err-clause-ended g c = search rules

use Rattle.std.proofs.Common.{rules}
use Rattle.qa_commands.proofs.checking.check.Goals as goal

pub returns-else-is_empty-clause-unread : goal.returns-else-is_empty-clause-unread
returns-else-is_empty-clause-unread g c = search rules

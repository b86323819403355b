use Rattle.std.proofs.Common.{rules}
use Rattle.qa_sender.proofs.machine.trim.Goals as goal

pub returns-clause-trimmed : goal.returns-clause-trimmed
returns-clause-trimmed c = search rules

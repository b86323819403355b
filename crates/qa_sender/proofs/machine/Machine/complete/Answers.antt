use Rattle.std.proofs.Common.{rules}
use Rattle.qa_sender.proofs.machine.Machine.complete.Goals as goal

pub returns-clause-connection : goal.returns-clause-connection
returns-clause-connection c = search rules

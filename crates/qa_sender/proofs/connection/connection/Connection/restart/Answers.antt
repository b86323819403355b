use Rattle.std.proofs.Common.{rules}
use Rattle.qa_sender.proofs.connection.connection.Connection.restart.Goals as goal

pub returns : goal.returns
returns c = search rules

use Rattle.std.proofs.Common.{rules}
use Rattle.qa_sender.proofs.connection.connection.Connection.on_congestion_event.Goals as goal

pub returns-in_default : goal.returns-in_default
returns-in_default c = search rules

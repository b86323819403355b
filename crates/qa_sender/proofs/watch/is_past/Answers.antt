use Rattle.std.proofs.Common.{rules}
use Rattle.qa_sender.proofs.Watching.{late_is}
use Rattle.qa_sender.proofs.watch.is_past.Goals as goal

pub returns : goal.returns
returns c = search (rules, late_is)

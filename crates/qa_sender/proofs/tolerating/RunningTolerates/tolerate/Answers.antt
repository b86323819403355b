use Rattle.std.proofs.Common.{rules}
use Rattle.qa_sender.proofs.tolerating.RunningTolerates.tolerate.Goals as goal

pub returns-in-Some-clause-broken : goal.returns-in-Some-clause-broken
returns-in-Some-clause-broken c = search rules

pub follow-requires-clause-allowed : goal.follow-requires-clause-allowed
follow-requires-clause-allowed c = search rules

use Rattle.std.proofs.Common.{rules}
use Rattle.qa_reference.proofs.whole.keep.Goals as goal

pub returns-clause-sent : goal.returns-clause-sent
returns-clause-sent c = search rules

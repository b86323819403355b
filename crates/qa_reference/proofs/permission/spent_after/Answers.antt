use Rattle.std.proofs.Common.{rules}
use Rattle.qa_reference.proofs.permission.spent_after.Goals as goal

pub returns-clause-value : goal.returns-clause-value
returns-clause-value c = search rules

use Rattle.std.proofs.Common.{rules}
use Rattle.qa_commands.proofs.explaining.explain.Goals as goal

pub returns-clause-ended : goal.returns-clause-ended
returns-clause-ended g c = search rules

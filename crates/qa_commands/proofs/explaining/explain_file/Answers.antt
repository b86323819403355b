use Rattle.std.proofs.Common.{inr}
use Rattle.qa_commands.proofs.Written.{explained_untold}
use Rattle.qa_commands.proofs.explaining.explain_file.Goals as goal

pub returns-clause-written : goal.returns-clause-written
returns-clause-written g c = inr (explained_untold _ _ _ _ _ c.explained.ensures.written)

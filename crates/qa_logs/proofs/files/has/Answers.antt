use Rattle.qa_logs.proofs.Found.{found}
use Rattle.qa_logs.proofs.files.has.Goals as goal

pub returns : goal.returns
returns c = rw c.is_some.ensures (found _ _ c.find.result c.find.ensures)

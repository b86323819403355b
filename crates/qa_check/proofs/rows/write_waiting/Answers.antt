use Rattle.qa_check.proofs.Writing.{begins_taken}
use Rattle.qa_check.proofs.rows.write_waiting.Goals as goal

pub returns-in-Err-clause-begun : goal.returns-in-Err-clause-begun
returns-in-Err-clause-begun g c = begins_taken _ _ _ (rw c.as_slice.ensures.value at c.in-Err.ensures.err)

use Rattle.std.proofs.Common.{inr, refl}
use Rattle.qa_check.proofs.Writing.{begins_taken}
use Rattle.qa_why_command.proofs.commanding.show.Goals as goal

pub returns-in-Err : goal.returns-in-Err
returns-in-Err g c =
    let is = c.in-Err.ensures.write in
    inr (refl, begins_taken _ _ c.args.text.now (rw c.as_bytes.ensures.value at c.in-Err.ensures.err), rw is at c.in-Err.ensures.failures, rw is at c.tell.ensures)

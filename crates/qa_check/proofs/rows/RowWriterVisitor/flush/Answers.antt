use Rattle.qa_check.specs.Standing.{by}
use Rattle.qa_check.proofs.Tells.{fails_flushing, tells_flushed}
use Rattle.qa_check.proofs.rows.RowWriterVisitor.flush.Goals as goal

pub returns-in-Ok-clause-ok : goal.returns-in-Ok-clause-ok
returns-in-Ok-clause-ok g c =
    let written = rw c.as_slice.ensures.value at c.in-Ok.ensures.ok in
    λ begun ls covered. (covered.0, tells_flushed g.F.RowForm.tells (by g.J.Judge.judges) _ _ _ _ _ _ _ _ ls c.in-Ok.ensures.failures written c.clear.ensures.items covered.1)

pub returns-in-Err-clause-fault : goal.returns-in-Err-clause-fault
returns-in-Err-clause-fault g c =
    let begun = rw c.as_slice.ensures.value at c.in-Err.ensures.err in
    λ first ls covered. (covered.0, fails_flushing g.F.RowForm.tells (by g.J.Judge.judges) _ _ _ _ _ _ _ _ ls c.in-Err.fault c.in-Err.ensures.write c.in-Err.ensures.failures begun covered.1)

use Rattle.std.proofs.Common.{refl}
use Rattle.qa_check.specs.Standing.{by}
use Rattle.qa_check.proofs.Tells.{begins_left, tells_ended, tells_none, unmade_begin, waits_begin}
use Rattle.qa_check.proofs.rows.walk_rows.Goals as goal

pub walk-requires : goal.walk-requires
walk-requires g c = record { fresh = ((refl, refl), tells_none g.F.RowForm.tells (by g.J.Judge.judges) _ _ _ c.requires.none); flushed = c.requires.none }

pub returns-in-Ok-clause-verdict : goal.returns-in-Ok-clause-verdict
returns-in-Ok-clause-verdict g c =
    let walked = c.in-Ok.ensures.walks in
    tells_ended (by g.J.Judge.judges) g.F.RowForm.tells _ _ _ _ _ _ _ _ walked.0 walked.1 walked.2.0 c.in-Ok.ensures.flushed walked.3.1

pub returns-in-Err-OutOfMemory-clause-out_of_memory : goal.returns-in-Err-OutOfMemory-clause-out_of_memory
returns-in-Err-OutOfMemory-clause-out_of_memory g c = λ is.
    let left = rw c.in-Err-OutOfMemory.field-0-is at c.in-Err-OutOfMemory.ensures.walks in
    begins_left (by g.J.Judge.judges) g.F.RowForm.tells _ _ _ _ _ (λ ls covered. waits_begin _ _ _ _ _ covered.1.1 c.write_waiting.ensures.begun) left

pub returns-in-Err-OutOfMemory-clause-unwritten : goal.returns-in-Err-OutOfMemory-clause-unwritten
returns-in-Err-OutOfMemory-clause-unwritten g c = λ is.
    let left = rw c.in-Err-OutOfMemory.field-0-is at c.in-Err-OutOfMemory.ensures.walks in
    begins_left (by g.J.Judge.judges) g.F.RowForm.tells _ _ _ _ _ (λ ls covered. waits_begin _ _ _ _ _ covered.1.1 c.write_waiting.ensures.begun) left

pub returns-in-Err-Visitor-OutOfMemory-clause-out_of_memory : goal.returns-in-Err-Visitor-OutOfMemory-clause-out_of_memory
returns-in-Err-Visitor-OutOfMemory-clause-out_of_memory g c = λ is.
    let fault = rw c.in-Err-Visitor-OutOfMemory.field-0-is at c.in-Err-Visitor-OutOfMemory.ensures.walks in
    let left = rw c.in-Err-Visitor-OutOfMemory.field-0-0-is at fault in
    begins_left (by g.J.Judge.judges) g.F.RowForm.tells _ _ _ _ _
    (λ ls failed. unmade_begin g.F.RowForm.tells (by g.J.Judge.judges) _ _ _ _ _ _ ls failed.1 c.write_waiting-in-Err-Visitor-OutOfMemory.ensures.begun) left

pub returns-in-Err-Visitor-OutOfMemory-clause-unwritten : goal.returns-in-Err-Visitor-OutOfMemory-clause-unwritten
returns-in-Err-Visitor-OutOfMemory-clause-unwritten g c = λ is.
    let fault = rw c.in-Err-Visitor-OutOfMemory.field-0-is at c.in-Err-Visitor-OutOfMemory.ensures.walks in
    let left = rw c.in-Err-Visitor-OutOfMemory.field-0-0-is at fault in
    begins_left (by g.J.Judge.judges) g.F.RowForm.tells _ _ _ _ _
    (λ ls failed. unmade_begin g.F.RowForm.tells (by g.J.Judge.judges) _ _ _ _ _ _ ls failed.1 c.write_waiting-in-Err-Visitor-OutOfMemory.ensures.begun) left

pub returns-in-Err-Visitor-Write-clause-unwritten : goal.returns-in-Err-Visitor-Write-clause-unwritten
returns-in-Err-Visitor-Write-clause-unwritten g c = λ is.
    let fault = rw c.in-Err-Visitor-Write.field-0-is at c.in-Err-Visitor-Write.ensures.walks in
    let left = rw c.in-Err-Visitor-Write.field-0-0-is at fault in
    begins_left (by g.J.Judge.judges) g.F.RowForm.tells _ _ _ _ _ (λ ls failed. failed.1.1) left

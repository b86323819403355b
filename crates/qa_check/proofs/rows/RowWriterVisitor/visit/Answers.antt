use Rattle.qa_check.specs.Standing.{by}
use Rattle.qa_check.proofs.Tells.{tells_line, unmade_line}
use Rattle.qa_check.proofs.rows.RowWriterVisitor.visit.Goals as goal

pub returns-in_default-clause-fault : goal.returns-in_default-clause-fault
returns-in_default-clause-fault g c = λ begun ls covered after. (covered.0, unmade_line g.F.RowForm.tells (by g.J.Judge.judges) _ _ _ _ _ ls c.args._line.now covered.1)

pub returns-in-Ok-extend_from_slice-clause-ok : goal.returns-in-Ok-extend_from_slice-clause-ok
returns-in-Ok-extend_from_slice-clause-ok g c =
    let longer = rw c.deref.ensures.value at c.in-Ok-extend_from_slice.ensures.items in
    λ begun ls covered after. (covered.0, tells_line g.J.Judge.judges g.F.RowForm.tells _ _ _ _ _ _ ls c.args._line.now c.in-Ok.text.items _ _ _ covered.1 after c.requires.says c.in-Ok.ensures longer)

pub returns-clause-fault : goal.returns-clause-fault
returns-clause-fault g c = λ begun ls covered after.
    (covered.0, rw c.in-Err.ensures.items (unmade_line g.F.RowForm.tells (by g.J.Judge.judges) _ _ _ _ _ ls c.args._line.now covered.1))

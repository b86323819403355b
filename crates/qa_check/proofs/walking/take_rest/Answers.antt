use Rattle.qa_check.proofs.Ends.{halts_at_good}
use Rattle.qa_check.proofs.Faults.{if_err_weaker, if_ok_is}
use Rattle.qa_check.specs.Standing.{by}
use Rattle.qa_check.proofs.walking.take_rest.Goals as goal

pub returns-in-Ok-clause-ends : goal.returns-in-Ok-clause-ends
returns-in-Ok-clause-ends g c =
    if_ok_is c.flushed.result c.in-Ok.last _ _ c.flushed.ensures.taken c.flushed.ensures.ok
    (λ more begun bytes f. let ended = c.in-Ok.ensures.ends begun bytes f in (ended.0, more begun _ ended.1))

pub returns-in-Ok-clause-halted : goal.returns-in-Ok-clause-halted
returns-in-Ok-clause-halted g c =
    if_err_weaker c.flushed.result _ _
    (λ halt halts begun bytes f.
    let ended = c.in-Ok.ensures.ends begun bytes f in
    halts_at_good (by g.J.Judge.judges) (g.V.Visitor.covers begun) (g.V.Visitor.fails begun) c.flushed.new.visitor halt bytes (halts begun _ ended.1))
    c.flushed.ensures.halted

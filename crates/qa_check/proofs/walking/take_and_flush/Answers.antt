use Rattle.std.proofs.Common.{◌≡◌, ◌++◌, inl, inr, subst}
use Rattle.qa_check.proofs.Ends.{halts_at_good, halts_behind, walked_by}
use Rattle.qa_check.proofs.Faults.{if_err_weaker}
use Rattle.qa_check.specs.Standing.{by}
use Rattle.qa_check.specs.Walking.{IsEnded}
use Rattle.qa_check.proofs.walking.take_and_flush.Goals as goal

pub returns-in-Ok-Good-clause-good : goal.returns-in-Ok-Good-clause-good
returns-in-Ok-Good-clause-good g c = λ is begun bytes f.
    let taken = rw c.in-Ok-Good.field-0-is at c.in-Ok-Good.is in
    let more = rw is at c.flushed.ensures.ok in
    walked_by g.J.Judge.judges (g.V.Visitor.covers begun) c.take_piece.new.checker c.take_piece.new.visitor c.flushed.new.visitor _ _ (more begun) (c.take_piece.ensures.good taken begun bytes f)

pub returns-in-Ok-Good-clause-halted : goal.returns-in-Ok-Good-clause-halted
returns-in-Ok-Good-clause-halted g c =
    let taken = rw c.in-Ok-Good.field-0-is at c.in-Ok-Good.is in
    if_err_weaker c.flushed.result _ _
    (λ halt halts begun bytes f.
    inl
    (halts_behind g.J.Judge.judges (g.V.Visitor.covers begun) (g.V.Visitor.fails begun) c.take_piece.new.checker c.take_piece.new.visitor c.flushed.new.visitor halt _ _ (c.take_piece.ensures.good taken begun bytes f) (halts begun)))
    c.flushed.ensures.halted

pub returns-in-Ok-Bad-clause-bad : goal.returns-in-Ok-Bad-clause-bad
returns-in-Ok-Bad-clause-bad g c = λ last is begun bytes f.
    let taken = rw c.in-Ok-Bad.field-0-is at c.in-Ok-Bad.is in
    let told = rw is at c.flushed-in-Ok-Bad.ensures.taken in
    let same : c.in-Ok-Bad.last ≡ last = cc in
    let more = rw is at c.flushed-in-Ok-Bad.ensures.ok in
    let bad = c.take_piece.ensures.bad c.in-Ok-Bad.last taken begun bytes f in
    (bad.0, (subst (λ x. IsEnded g.J.Judge.judges c.args.keeps c.take_piece.new.checker x (bytes ++ c.args.piece.now)) same bad.1.0, more begun _ bad.1.1))

pub returns-in-Ok-Bad-clause-halted : goal.returns-in-Ok-Bad-clause-halted
returns-in-Ok-Bad-clause-halted g c =
    let taken = rw c.in-Ok-Bad.field-0-is at c.in-Ok-Bad.is in
    if_err_weaker c.flushed-in-Ok-Bad.result _ _
    (λ halt halts begun bytes f.
    let bad = c.take_piece.ensures.bad c.in-Ok-Bad.last taken begun bytes f in
    inr (bad.0, halts_at_good (by g.J.Judge.judges) (g.V.Visitor.covers begun) (g.V.Visitor.fails begun) c.flushed-in-Ok-Bad.new.visitor halt (bytes ++ c.args.piece.now) (halts begun _ bad.1.1)))
    c.flushed-in-Ok-Bad.ensures.halted

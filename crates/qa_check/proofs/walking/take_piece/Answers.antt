use Rattle.std.proofs.Common.{◌++◌}
use Rattle.qa_check.proofs.Ends.{halts_open}
use Rattle.qa_check.proofs.Following.{follow_fed, follow_piece}
use Rattle.qa_check.specs.Standing.{by}
use Rattle.qa_check.specs.Walking.{Covered}
use Rattle.qa_check.proofs.walking.take_piece.Goals as goal

pub returns-in_default-clause-halted : goal.returns-in_default-clause-halted
returns-in_default-clause-halted g c = λ begun bytes f.
    halts_open g.J.Judge.judges (g.V.Visitor.covers begun) (g.V.Visitor.fails begun) c.args.checker.now c.args.visitor.now (c.args.splitter.now.bytes ++ c.args.piece.now) (bytes ++ c.args.piece.now)
    (follow_piece (by g.J.Judge.judges) (Covered g.J.Judge.judges (g.V.Visitor.covers begun) c.args.checker.now c.args.visitor.now) _ c.args.piece.now bytes f)

pub returns-clause-bad : goal.returns-clause-bad
returns-clause-bad g c = λ last is begun bytes f.
    c.take_lines.ensures.bad last is begun (bytes ++ c.args.piece.now)
    (follow_fed (by g.J.Judge.judges) (Covered g.J.Judge.judges (g.V.Visitor.covers begun) c.args.checker.now c.args.visitor.now) _ _ c.args.piece.now bytes c.in-Ok.ensures.ok f)

use Rattle.std.proofs.Common.{◌++◌}
use Rattle.qa_check.proofs.Fed.{open_from}
use Rattle.qa_check.proofs.auditor.feed.Goals as goal

pub returns-in-Ok-Good-clause-fed : goal.returns-in-Ok-Good-clause-fed
returns-in-Ok-Good-clause-fed g c =
    let is = rw c.in-Ok-Good.field-0-is at c.in-Ok-Good.is in
    λ bytes f.
    let walked = c.take_piece.ensures.good is c.take_piece.new.visitor bytes (f.0, (f.1, tt), f.2, f.3, f.4) in
    open_from g.L.Judge.judges c.take_piece.new.splitter c.take_piece.new.checker (bytes ++ c.args.piece.now) (c.take_piece.ensures.more is).empty.0 (walked.0, walked.1.0, walked.2, walked.3, walked.4)

pub returns-in-Ok-clause-fed : goal.returns-in-Ok-clause-fed
returns-in-Ok-clause-fed g c =
    let is = rw c.in-Ok-Bad.field-0-is at c.in-Ok-Bad.is in
    λ bytes f.
    let bad = c.take_piece.ensures.bad _ is c.take_piece.new.visitor bytes (f.0, (f.1, tt), f.2, f.3, f.4) in
    (bad.0, c.in-Ok.ensures.ok (bytes ++ c.args.piece.now) bad.1.0.0)

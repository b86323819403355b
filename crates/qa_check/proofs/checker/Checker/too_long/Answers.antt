use Rattle.std.proofs.Common.{◌∙◌, Err, ap}
use Rattle.qa_check.proofs.Growing.{unread_adds, too_long}
use Rattle.qa_check.proofs.checker.Checker.too_long.Goals as goal

pub returns-in-Ok-clause-decided : goal.returns-in-Ok-clause-decided
returns-in-Ok-clause-decided g c = λ is l long.
    let open_yet = c.in-Ok.ensures.ok in
    let stop = c.stop.ensures in
    rw (← open_yet.0) (unread_adds _ c.expect_line.new.self c.stop.new.self _ _ stop.whole stop.decided stop.verdict open_yet.2 (too_long _ l open_yet.3 long))

pub returns-in-Err-clause-decided : goal.returns-in-Err-clause-decided
returns-in-Err-clause-decided g c = λ is l long. c.expect_line.ensures.decided (c.in-Err.is ∙ ap Err is) l

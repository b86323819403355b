use Rattle.std.proofs.Common.{◌∙◌, []}
use Rattle.std.proofs.lemmas.Result.{on_ok_weaker}
use Rattle.qa_convert.proofs.Ending.{ends_all}
use Rattle.qa_convert.proofs.Grouped.{gathers_then}
use Rattle.qa_convert.specs.Gathering.{held}
use Rattle.qa_convert.proofs.groups.Gathering.end.Goals as goal

pub returns : goal.returns
returns c =
    let w = c.args.self.now in
    let v = c.close.new.self in
    let first = v.dialect.metrics_stand_before in
    let taken = c.in_ok-take_report.ensures.goes in
    let closed = c.in_ok-close.ensures.goes in
    let gathers = gathers_then _ _ _ [] [] _ _ _ taken.gathers closed.gathers in
    on_ok_weaker c.hand_last.result
    (λ hands. ends_all c.args.is_torn (held w) first v.is_closed v.last v.«open» v.report c.args.out.now.items c.close.new.out.items c.hand_last.new.out.items
    c.in_ok-close.ensures.begun c.in_ok-close.ensures.report gathers closed.fit.last_is
    (λ is. (closed.none is).1 ∙ (taken.none (closed.none is).0).1) hands)
    c.hand_last.ensures

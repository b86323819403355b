use Rattle.std.proofs.Common.{◌∙◌, sym}
use Rattle.qa_check.proofs.Faults.{ok_is_no_err, error_of, stops_differ}
use Rattle.qa_check.proofs.Growing.{header_stops, headed}
use Rattle.qa_check.proofs.checker.Checker.start.Goals as goal

pub returns-then-is_some : goal.returns-then-is_some
returns-then-is_some g c =
    let stop = c.stop.ensures in
    record {
      whole = stop.whole;
      memory = λ is. stops_differ (sym stop.result ∙ error_of is);
      ok = tt;
      decided = λ is. header_stops _ _ _ _ (headed _ _ c.self.view_is _ c.is_some.ensures c.if-is_some.true) stop.decided stop.verdict;
      kept = λ is. stop.kept;
    }

pub returns-clause-memory : goal.returns-clause-memory
returns-clause-memory g c = λ is. ok_is_no_err is

pub returns-clause-decided : goal.returns-clause-decided
returns-clause-decided g c = λ is. absurd (ok_is_no_err is)

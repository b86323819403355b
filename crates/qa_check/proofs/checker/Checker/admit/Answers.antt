use Rattle.std.proofs.Common.{◌∙◌, Err, Some, refl, sym, ap}
use Rattle.qa_check.proofs.Faults.{ok_is_no_err, error_of, stops_differ, decided_is_not_memory, memory_is_not_decided}
use Rattle.qa_check.proofs.Growing.{event_stops}
use Rattle.qa_check.proofs.checker.Checker.admit.Goals as goal

pub returns-in_default : goal.returns-in_default
returns-in_default g c =
    let stop = c.stop.ensures in
    record {
      failed = λ is. absurd (stops_differ (sym stop.result ∙ error_of is));
      whole = λ other. stop.whole;
      ok = tt;
      decided = λ is. rw (← c.self.view_is) (event_stops _ _ _ _ c.in_default.is stop.decided stop.verdict);
      kept = λ is. rw (← c.self.view_is) stop.kept;
    }

pub returns-in-Ok-clause-failed : goal.returns-in-Ok-clause-failed
returns-in-Ok-clause-failed g c = λ is. absurd (ok_is_no_err is)

pub returns-in-Ok-clause-decided : goal.returns-in-Ok-clause-decided
returns-in-Ok-clause-decided g c = λ is. absurd (ok_is_no_err is)

pub returns-in-Err-Broken-clause-failed : goal.returns-in-Err-Broken-clause-failed
returns-in-Err-Broken-clause-failed g c = λ is. absurd (decided_is_not_memory is)

pub returns-in-Err-OutOfMemory : goal.returns-in-Err-OutOfMemory
returns-in-Err-OutOfMemory g c = record { failed = λ is. refl; whole = λ other. absurd (other refl); ok = tt; decided = λ is. absurd (memory_is_not_decided is); kept = λ is. absurd (memory_is_not_decided is) }

-- Written out, so that a wrong body is refused at this line.
pub returns-in-Err-Broken-clause-kept : goal.returns-in-Err-Broken-clause-kept
returns-in-Err-Broken-clause-kept g c = λ is.
    let broken = c.in-Err-Broken.is ∙ ap Err c.in-Err-Broken.field-0-is in
    rw (← c.self.view_is) (ap Some (c.judge.ensures.broken c.in-Err-Broken.rule broken).0 ∙ sym c.in-Some.is)

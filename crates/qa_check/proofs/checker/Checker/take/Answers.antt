use Rattle.std.proofs.Common.{false, refl, sym}
use Rattle.qa_check.proofs.Faults.{ok_is_no_err}
use Rattle.qa_check.proofs.Growing.{whole_of}
use Rattle.qa_check.proofs.checker.Checker.take.Goals as goal

pub returns-in-Blank-clause-failed : goal.returns-in-Blank-clause-failed
returns-in-Blank-clause-failed g c = λ is. absurd (ok_is_no_err is)

pub returns-in-Blank-clause-decided : goal.returns-in-Blank-clause-decided
returns-in-Blank-clause-decided g c = λ is. absurd (ok_is_no_err is)

-- Written out, so that a wrong body is refused at this line.
pub returns-in-Blank-clause-ok : goal.returns-in-Blank-clause-ok
returns-in-Blank-clause-ok g c =
    let whole = whole_of _ _ (sym c.self.view_is) false c.requires.whole in
    let undecided = rw (← c.self.view_is) at c.requires.undecided in
    rw (← c.self.view_is, c.in-Blank.is) (whole, record { undecided = undecided; count = refl; last = refl; runs = λ s h holds. (refl, holds) })

pub returns-in-Header : goal.returns-in-Header
returns-in-Header g c =
    let started = c.start.ensures in
    record { failed = λ is. absurd (started.memory is); whole = λ other. started.whole; ok = rw c.in-Header.is started.ok; decided = rw c.in-Header.is started.decided; kept = started.kept }

pub returns-in-Event : goal.returns-in-Event
returns-in-Event g c =
    let admitted = c.admit.ensures in
    record { failed = admitted.failed; whole = admitted.whole; ok = rw c.in-Event.is admitted.ok; decided = rw c.in-Event.is admitted.decided; kept = admitted.kept }

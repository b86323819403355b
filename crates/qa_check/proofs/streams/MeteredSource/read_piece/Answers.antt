use Rattle.std.proofs.Common.{◌≡◌, ℕ, Bool, Result, Ok, Err, is_err}
use Rattle.qa_check.specs.Failures.{failures_after, read_failed}
use Rattle.qa_check.proofs.streams.MeteredSource.read_piece.Goals as goal

fails : {E : Type 0} (n : ℕ) (read : Result ℕ E) (failed : Bool) → failed ≡ is_err read → failures_after failed n ≡ failures_after (read_failed read) n
fails n (Ok m) failed is = rw is
fails n (Err e) failed is = rw is

-- Written out, so that a wrong body is refused at this line.
pub returns-clause-failures : goal.returns-clause-failures
returns-clause-failures g c = rw (← c.self.view_is, c.counted-self-inside.ensures) (fails c.self.inside.failures c.read-read.result c.is_err.result c.is_err.ensures.value)

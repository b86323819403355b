use Rattle.std.proofs.Common.{◌∷◌}
use Rattle.qa_base.proofs.history.Settled as settled
use Rattle.qa_base.proofs.history.Changes as changes
use Rattle.qa_laws.proofs.machine.Passing as passing
use Rattle.qa_laws.proofs.running.closed_stays_closed.Goals as goal
use Rattle.qa_base.proofs.machine.RunLaws.{tolerated_run_of}

pub returns : goal.returns
returns c = record {
  closed = λ s e h run. settled.closed_stays s e h (tolerated_run_of s (e ∷ h) run);
  stays = passing.stays_open;
  covered = changes.covered_after;
  lost = λ s e h run. changes.lost_is_taken s e h (tolerated_run_of s (e ∷ h) run);
  largest = settled.below_largest_stays;
}

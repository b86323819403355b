use Rattle.std.proofs.Common.{◌∷◌}
use Rattle.qa_base.proofs.history.Forgotten as forgotten
use Rattle.qa_base.proofs.history.Sending as lemmas
use Rattle.qa_laws.proofs.running.closed_are_forgotten.Goals as goal
use Rattle.qa_base.proofs.machine.RunLaws.{tolerated_run_of}

pub returns : goal.returns
returns c = record {
  newly = λ s e h run. lemmas.newly_of_kept_in_order s e h (tolerated_run_of s (e ∷ h) run);
  owed = λ s e h run. lemmas.owed_of_kept_in_order s e h (tolerated_run_of s (e ∷ h) run);
  persistent = λ s e h run. lemmas.persistent_is_walk_of_kept s e h (tolerated_run_of s (e ∷ h) run);
  among = λ s e h run. forgotten.persistent_of_kept s e h (tolerated_run_of s (e ∷ h) run);
  must_persistent = λ s e h run. lemmas.must_persistent_is_walk_of_kept s e h (tolerated_run_of s (e ∷ h) run);
  must_among = λ s e h run. forgotten.must_persistent_of_kept s e h (tolerated_run_of s (e ∷ h) run);
  sums = lemmas.open_sum_of_kept_in_order;
  closed = λ s e h run. lemmas.stay_closed_in_order s e h (tolerated_run_of s (e ∷ h) run);
  last = lemmas.parts_after;
}

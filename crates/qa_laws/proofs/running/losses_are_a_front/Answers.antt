use Rattle.std.proofs.Common.{◌∷◌}
use Rattle.qa_laws.proofs.machine.Passing as passing
use Rattle.qa_base.proofs.history.Walks as walks
use Rattle.qa_laws.proofs.running.losses_are_a_front.Goals as goal
use Rattle.qa_base.proofs.machine.RunLaws.{tolerated_run_of}

pub returns : goal.returns
returns c = record { late = λ s e h run. walks.owed_of_rest s e h (tolerated_run_of s (e ∷ h) run); passed = passing.owed_is_passed; after = passing.none_flies_passed }

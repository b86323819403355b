use Rattle.std.proofs.Common.{◌∷◌}
use Rattle.qa_base.proofs.history.Closing as lemmas
use Rattle.qa_laws.proofs.running.sums_after_an_event.Goals as goal
use Rattle.qa_base.proofs.machine.RunLaws.{tolerated_run_of}

pub returns : goal.returns
returns c = λ weight s e h run. lemmas.open_sum_after weight s e h (tolerated_run_of s (e ∷ h) run)

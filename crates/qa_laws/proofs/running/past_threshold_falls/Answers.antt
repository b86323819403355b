use Rattle.qa_base.proofs.history.Thresholds as lemmas
use Rattle.qa_laws.proofs.running.past_threshold_falls.Goals as goal
use Rattle.qa_base.proofs.machine.RunLaws.{tolerated_run_of}

pub returns : goal.returns
returns c = record { any = lemmas.earlier_is_past_threshold; in_run = λ s h run. lemmas.lower_is_past_threshold s h (tolerated_run_of s h run) }

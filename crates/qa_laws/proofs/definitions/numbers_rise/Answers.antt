use Rattle.qa_base.proofs.machine.RunLaws as lemmas
use Rattle.qa_base.proofs.machine.RunLaws.{tolerated_run_of}
use Rattle.qa_laws.proofs.definitions.numbers_rise.Goals as goal

pub returns : goal.returns
returns c = record { packets = λ s h run. lemmas.numbers_fall s h (tolerated_run_of s h run); newly = λ s e h run. lemmas.newly_acknowledged_fall s e h (tolerated_run_of s h run) }

use Rattle.qa_base.proofs.machine.PtoCount as lemmas
use Rattle.qa_base.proofs.machine.RunLaws.{tolerated_run_of}
use Rattle.qa_laws.proofs.definitions.pto_count_is_small.Goals as goal

pub returns : goal.returns
returns c = λ s h run. lemmas.small_pto_count s h (tolerated_run_of s h run)

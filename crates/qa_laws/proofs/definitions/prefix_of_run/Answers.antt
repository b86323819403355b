use Rattle.qa_base.proofs.machine.RunLaws as lemmas
use Rattle.qa_laws.proofs.definitions.prefix_of_run.Goals as goal

pub returns : goal.returns
returns c = lemmas.prefix_of_run

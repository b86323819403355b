use Rattle.qa_base.proofs.machine.RunLaws as lemmas
use Rattle.qa_laws.proofs.definitions.old_is_after_loss_delay.Goals as goal

pub returns-clause-delay : goal.returns-clause-delay
returns-clause-delay c = lemmas.old_is_after_loss_delay

pub returns-clause-exact : goal.returns-clause-exact
returns-clause-exact c = lemmas.old_is_exact

use Rattle.qa_laws.proofs.machine.Choices as lemmas
use Rattle.qa_laws.proofs.definitions.no_delay_takes_nothing_off.Goals as goal

pub returns : goal.returns
returns c = lemmas.no_delay_takes_nothing_off

use Rattle.qa_laws.proofs.machine.Choices as lemmas
use Rattle.qa_laws.proofs.definitions.greater_threshold_makes_none_old.Goals as goal

pub returns : goal.returns
returns c = lemmas.greater_threshold_makes_none_old

use Rattle.qa_format.proofs.format.ProperReadings as lemmas
use Rattle.qa_laws.proofs.definitions.reading_is_proper.Goals as goal

pub returns : goal.returns
returns c = lemmas.reading_is_proper

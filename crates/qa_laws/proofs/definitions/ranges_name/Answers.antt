use Rattle.qa_base.proofs.machine.Ranges as lemmas
use Rattle.qa_laws.proofs.definitions.ranges_name.Goals as goal

pub returns : goal.returns
returns c = record { only = lemmas.has_all_is; between = lemmas.names_between_is }

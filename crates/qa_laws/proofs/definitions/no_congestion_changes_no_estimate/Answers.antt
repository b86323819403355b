use Rattle.qa_laws.proofs.machine.Congested as lemmas
use Rattle.qa_laws.proofs.definitions.no_congestion_changes_no_estimate.Goals as goal

pub returns : goal.returns
returns c = lemmas.by_samples_alone

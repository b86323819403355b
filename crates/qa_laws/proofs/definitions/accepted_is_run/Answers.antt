use Rattle.qa_format.proofs.verdicts.RunsAccepted as lemmas
use Rattle.qa_laws.proofs.definitions.accepted_is_run.Goals as goal

pub returns : goal.returns
returns c = lemmas.accepted_exactly_runs

use Rattle.qa_base.proofs.history.Awaiting as lemmas
use Rattle.qa_laws.proofs.definitions.no_tolerance_changes_nothing.Goals as goal

pub returns : goal.returns
returns c = record { detection = lemmas.looks_when_it_goes_off; timers = lemmas.early_without }

use Rattle.qa_laws.proofs.machine.Windows as lemmas
use Rattle.qa_laws.proofs.conduct.collapses_are_reported.Goals as goal

pub returns : goal.returns
returns c = lemmas.collapse_is_reported

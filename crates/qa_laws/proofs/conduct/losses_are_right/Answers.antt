use Rattle.qa_laws.proofs.machine.ConductOfLosses as lemmas
use Rattle.qa_laws.proofs.conduct.losses_are_right.Goals as goal

pub returns : goal.returns
returns c = lemmas.lost_rightly

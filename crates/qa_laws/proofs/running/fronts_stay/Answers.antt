use Rattle.qa_laws.proofs.machine.FateLaws as lemmas
use Rattle.qa_laws.proofs.running.fronts_stay.Goals as goal

pub returns : goal.returns
returns c = lemmas.none_flies_stays

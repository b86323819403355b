use Rattle.qa_laws.proofs.machine.ConductOfWindows as lemmas
use Rattle.qa_laws.proofs.conduct.entries_need_later_losses.Goals as goal

pub returns : goal.returns
returns c = record { any = lemmas.halved_once; must = lemmas.must_halve_once }

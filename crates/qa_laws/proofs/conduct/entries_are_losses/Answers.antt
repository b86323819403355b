use Rattle.qa_laws.proofs.machine.ConductOfWindows as lemmas
use Rattle.qa_laws.proofs.conduct.entries_are_losses.Goals as goal

pub returns : goal.returns
returns c = record { any = lemmas.entry_by_losses; must = lemmas.must_entry_by_losses }

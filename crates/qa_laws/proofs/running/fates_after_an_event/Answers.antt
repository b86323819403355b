use Rattle.qa_laws.proofs.machine.FateLaws as lemmas
use Rattle.qa_laws.proofs.running.fates_after_an_event.Goals as goal

pub returns : goal.returns
returns c = record { fate = lemmas.fate_after; opened = lemmas.open_is_uncovered }

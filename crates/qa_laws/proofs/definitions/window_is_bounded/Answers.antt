use Rattle.qa_laws.proofs.machine.Windows as lemmas
use Rattle.qa_laws.proofs.definitions.window_is_bounded.Goals as goal

pub returns : goal.returns
returns c = record { low = lemmas.least_window; high = lemmas.greatest_window }

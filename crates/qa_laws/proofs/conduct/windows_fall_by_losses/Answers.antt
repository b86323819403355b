use Rattle.qa_laws.proofs.machine.Windows as lemmas
use Rattle.qa_laws.proofs.conduct.windows_fall_by_losses.Goals as goal

pub returns : goal.returns
returns c = record { own = lemmas.falls_by_loss; must = lemmas.must_fall_by_loss; in_range = lemmas.unreported_must; reported = lemmas.falls_by_report }

use Rattle.qa_laws.proofs.machine.Windows as lemmas
use Rattle.qa_laws.proofs.conduct.reported_windows_are_reports.Goals as goal

pub returns : goal.returns
returns c = record { start = lemmas.starts_with_initial; after = lemmas.is_last_report }

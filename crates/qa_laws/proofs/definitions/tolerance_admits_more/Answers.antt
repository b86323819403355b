use Rattle.qa_laws.proofs.machine.Looser as lemmas
use Rattle.qa_laws.proofs.definitions.tolerance_admits_more.Goals as goal

pub returns : goal.returns
returns c = record { runs = lemmas.run_if_looser; owed = lemmas.owes_the_same }

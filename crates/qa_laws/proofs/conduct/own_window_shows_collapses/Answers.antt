use Rattle.qa_laws.proofs.machine.OwnCollapse as lemmas
use Rattle.qa_laws.proofs.conduct.own_window_shows_collapses.Goals as goal

pub returns : goal.returns
returns c = record { bound = lemmas.own_window_shows_it; admitted = lemmas.own_window_is_admitted }

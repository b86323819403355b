use Rattle.qa_laws.proofs.machine.Free as lemmas
use Rattle.qa_laws.proofs.conduct.lost_lines_take_what_was_free.Goals as goal

pub returns : goal.returns
returns c = lemmas.lost_takes_free

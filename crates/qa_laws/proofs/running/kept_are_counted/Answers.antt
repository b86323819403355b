use Rattle.qa_base.proofs.history.KeptCount as lemmas
use Rattle.qa_laws.proofs.running.kept_are_counted.Goals as goal

pub returns : goal.returns
returns c = lemmas.kept_count_is

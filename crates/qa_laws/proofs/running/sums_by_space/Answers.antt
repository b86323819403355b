use Rattle.qa_laws.proofs.machine.BySpace as lemmas
use Rattle.qa_laws.proofs.running.sums_by_space.Goals as goal

pub returns : goal.returns
returns c = record { bytes = lemmas.bytes_by_space; awaits = lemmas.awaits_is; gone = lemmas.gone_is_empty }

use Rattle.qa_laws.proofs.machine.Free as free
use Rattle.qa_laws.proofs.machine.Near as lemmas
use Rattle.qa_laws.proofs.conduct.open_packets_are_near.Goals as goal

pub returns : goal.returns
returns c = record { by_number = lemmas.flying_below; by_age = free.flying_is_young }

use Rattle.qa_laws.proofs.machine.PacketCounts as lemmas
use Rattle.qa_laws.proofs.counting.packets_are_no_more_than_numbers.Goals as goal

pub returns : goal.returns
returns c = record { distance = lemmas.no_more; past = lemmas.past_by_packets }

use Rattle.qa_laws.proofs.machine.PacketCounts as lemmas
use Rattle.qa_laws.proofs.counting.counts_agree_where_none_is_skipped.Goals as goal

pub returns : goal.returns
returns c = record { distance = lemmas.as_many; past = lemmas.past_alike; spared = lemmas.spared_alike }

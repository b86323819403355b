use Rattle.std.proofs.Common.{length}
use Rattle.qa_sent_packets.specs.Dropping.{Sheds}
use Rattle.qa_sent_packets.proofs.packets.SentPackets.drop_front.Given as goal

abbrev pub invariant-loop : goal.invariant-loop
invariant-loop l = Sheds l.fn.self l.self

abbrev pub decreases-loop : goal.decreases-loop
decreases-loop l = length l.self.packets

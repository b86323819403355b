use Rattle.std.proofs.Common.{rules}
use Rattle.qa_sent_packets.proofs.packet.SentPacket.is_closed.Goals as goal

pub returns-then-not-is_open : goal.returns-then-not-is_open
returns-then-not-is_open c = search rules

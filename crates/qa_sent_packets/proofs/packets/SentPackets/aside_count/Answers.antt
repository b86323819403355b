use Rattle.std.proofs.Common.{arith}
use Rattle.qa_sent_packets.proofs.packets.SentPackets.aside_count.Goals as goal

pub returns-clause-small : goal.returns-clause-small
returns-clause-small c = omega (arith, c.len.ensures.small, c.len-2.ensures.small, c.len-3.ensures.small, c.from.ensures, c.from-2.ensures, c.from-3.ensures)

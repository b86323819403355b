use Rattle.std.proofs.Common.{arith}
use Rattle.qa_reference.proofs.sampling.sample_of.Goals as goal

pub returns-else-not-acknowledges_sampled : goal.returns-else-not-acknowledges_sampled
returns-else-not-acknowledges_sampled c =
    let some = rw c.in-Ack.is at c.acknowledges_sampled.ensures in
    let packet = rw c.in-Ack.is at c.newly_numbered-packet.ensures in
    rw (c.in-Ack.is) (grind (arith, some, packet))

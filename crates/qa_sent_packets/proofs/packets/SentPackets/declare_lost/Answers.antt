use Rattle.std.proofs.Common.{arith}
use Rattle.qa_sent_packets.proofs.Declared.{sound_declared}
use Rattle.qa_sent_packets.proofs.packets.SentPackets.declare_lost.Goals as goal

pub invariant_of-self : goal.invariant_of-self
invariant_of-self c =
    let inside = c.self.inside in
    rw c.declare_in.ensures (sound_declared inside.queue.dropped inside.queue.packets.items inside.losses _ inside.by_space c.self.invariant (omega arith))

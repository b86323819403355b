use Rattle.qa_sent_packets.proofs.Settled.{sound_acknowledged}
use Rattle.qa_sent_packets.proofs.Sound.{space_packets_sound}
use Rattle.qa_sent_packets.proofs.packets.SentPackets.acknowledge_queue.Goals as goal

pub acknowledge-requires-clause-space_packets : goal.acknowledge-requires-clause-space_packets
acknowledge-requires-clause-space_packets c =
    let before = c.self.inside in
    rw c.of_mut-space_packets.ensures.value (space_packets_sound before.queue.dropped before.queue.packets.items before.losses before.by_space c.self.invariant c.args.space)

pub invariant_of-self : goal.invariant_of-self
invariant_of-self c =
    let before = c.self.inside in
    rw c.acknowledge.ensures.dropped (sound_acknowledged c.acknowledge.result before.queue.dropped before.queue.packets.items _ before.losses before.by_space c.args.space c.acknowledge.new.space_packets c.args.spans.now
    (rw (← c.self.view_is) at c.requires.settled) c.self.invariant c.acknowledge.ensures.packets c.acknowledge.ensures.err (rw c.acknowledge.ensures.dropped at c.acknowledge.ensures.space_packets))

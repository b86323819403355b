use Rattle.qa_sent_packets.proofs.Pushed.{sound_added}
use Rattle.qa_sent_packets.proofs.Sound.{space_packets_sound}
use Rattle.qa_sent_packets.proofs.packets.SentPackets.push.Goals as goal

pub add-requires-clause-space_packets : goal.add-requires-clause-space_packets
add-requires-clause-space_packets c =
    let before = c.self.inside in
    rw c.of_mut-space_packets.ensures.value (space_packets_sound before.queue.dropped before.queue.packets.items before.losses before.by_space c.self.invariant c.args.packet.space)

pub invariant_of-self : goal.invariant_of-self
invariant_of-self c =
    let before = c.self.inside in
    rw c.add.ensures.dropped (sound_added c.add.result before.queue.dropped before.queue.packets.items _ c.args.packet before.losses before.by_space c.add.new.space_packets c.requires.open c.requires.small
    (rw (← c.self.view_is) at c.requires.ordered) (rw (← c.self.view_is) at c.requires.few) (rw (← c.self.view_is) at c.requires.aside) c.self.invariant c.add.ensures.ok c.add.ensures.err (rw c.add.ensures.dropped at c.add.ensures.space_packets))

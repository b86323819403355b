use Rattle.std.proofs.Common.{◌≡◌, ◌∙◌, ◌+◌, [], length, map, ap}
use Rattle.std.specs.VecDeque.{deque_len}
use Rattle.std.proofs.lemmas.List.{length-map}
use Rattle.qa_sent_packets.specs.Steps.{discarded_in}
use Rattle.qa_sent_packets.proofs.Discarded.{discarded_alike, discarded_not_owed, discarded_same, space_packets_cleared}
use Rattle.qa_base.specs.values.PerSpace.{with_space}
use Rattle.qa_sent_packets.proofs.Filed.{fewer_with}
use Rattle.qa_sent_packets.proofs.Settled.{sound_settled}
use Rattle.qa_sent_packets.proofs.Sound.{sound_fewer}
use Rattle.qa_sent_packets.proofs.packets.SentPackets.discard.Goals as goal

pub invariant_of-self : goal.invariant_of-self
invariant_of-self c =
    let before = c.self.inside in
    let ps = before.queue.packets.items in
    let s = c.args.space in
    let f = discarded_in s in
    let same : length c.discard_all.new.packets.items ≡ length ps = ap length c.discard_all.ensures ∙ length-map ps f in
    let many : deque_len c.discard_all.new.packets ≡ length c.discard_all.new.packets.items = c.discard_all.new.packets.ok.0 in
    let next : c.clear-2.new.self.next ≡ before.queue.dropped + length ps = c.clear-2.ensures.next ∙ ap (λ n. before.queue.dropped + n) (c.len.ensures ∙ (many ∙ same)) in
    rw (c.discard_all.ensures, c.clear.ensures)
    (sound_fewer before.strays (with_space s before.strays []) before.queue.dropped (map f ps) before.losses (with_space s before.by_space c.clear-2.new.self)
    (fewer_with s before.strays [] (λ P all. tt))
    (sound_settled before.queue.dropped ps before.losses before.by_space s c.clear-2.new.self f (discarded_same s) (discarded_not_owed s) (discarded_alike s)
    (rw (← c.self.view_is) at c.requires.settled) c.self.invariant
    (space_packets_cleared s before.queue.dropped ps c.clear-2.new.self c.clear-2.ensures.entries c.clear-2.ensures.in_flight c.clear-2.ensures.awaiting next)))

use Rattle.qa_base.specs.values.PerSpace.{of_space, with_space}
use Rattle.qa_sent_packets.proofs.Filed.{each_without, fewer_with}
use Rattle.qa_sent_packets.proofs.Sound.{sound_fewer}
use Rattle.qa_sent_packets.specs.Strays.{without}
use Rattle.qa_sent_packets.proofs.packets.SentPackets.forget_strays.Goals as goal

pub invariant_of-self : goal.invariant_of-self
invariant_of-self c =
    let before = c.self.inside in
    let strays = of_space c.args.space before.strays in
    let gone = c.args.gone.now in
    rw (c.remove_all.ensures, c.of_mut.ensures.value)
    (sound_fewer before.strays (with_space c.args.space before.strays (without gone strays)) before.queue.dropped before.queue.packets.items before.losses before.by_space
    (fewer_with c.args.space before.strays (without gone strays) (λ P all. each_without P gone strays all)) c.self.invariant)

use Rattle.std.proofs.Common.{◌≡◌, length, map, arith}
use Rattle.std.proofs.lemmas.List.{length-map}
use Rattle.qa_base.specs.values.Limits.{max_packet_size}
use Rattle.qa_base.specs.values.PerSpace.{of_space}
use Rattle.qa_sent_packets.specs.Steps.{found_by}
use Rattle.qa_sent_packets.proofs.Alike.{space_packets_alike, ordered_same, sizes_same}
use Rattle.qa_sent_packets.proofs.Detected.{found_alike, found_same}
use Rattle.qa_sent_packets.proofs.Sound.{above_same, space_packets_sound, sound_with}
use Rattle.qa_sent_packets.proofs.packets.SentPackets.detect.Goals as goal

pub detect-self-inside-requires-clause-space_packets : goal.detect-self-inside-requires-clause-space_packets
detect-self-inside-requires-clause-space_packets c =
    let before = c.self.inside in
    rw c.of_mut-space_packets.ensures.value (space_packets_sound before.queue.dropped before.queue.packets.items before.losses before.by_space c.self.invariant c.args.space)

pub invariant_of-self : goal.invariant_of-self
invariant_of-self c =
    let before = c.self.inside in
    let d = before.queue.dropped in
    let ps = before.queue.packets.items in
    let s = c.args.space in
    let l = c.args.thresholds.now in
    let f = found_by s l in
    let found = c.detect-self-inside in
    let long : length (map f ps) ≡ length ps = length-map ps f in
    let few = c.self.invariant.few in
    rw (found.ensures.packets, found.ensures.dropped)
    (sound_with d (map f ps) found.result before.by_space s found.new.space_packets (record {
      owed = rw (found.ensures.packets, found.ensures.dropped) at found.ensures.losses;
      ordered = ordered_same f (found_same s l) ps c.self.invariant.ordered;
      sizes = sizes_same max_packet_size f (found_same s l) ps c.self.invariant.sizes;
      few = omega (arith, few, long);
      above = above_same before.strays f (found_same s l) ps c.self.invariant.above;
    }) (rw (found.ensures.packets, found.ensures.dropped) at found.ensures.space_packets)
    (λ t out. space_packets_alike t f (found_alike s l t out) d ps (of_space t before.by_space) (space_packets_sound d ps before.losses before.by_space c.self.invariant t)))

use Rattle.std.proofs.Common.{◌≡◌, ◌∙◌, ◌&&◌, length, map, ap, count_by, arith}
use Rattle.std.proofs.lemmas.List.{length-map}
use Rattle.qa_base.specs.values.Limits.{max_packet_size}
use Rattle.qa_base.specs.values.PerSpace.{of_space}
use Rattle.std.specs.List.{list_any}
use Rattle.qa_base.specs.values.Events.{is_named}
use Rattle.qa_sent_packets.specs.Fates.{is_owed}
use Rattle.qa_sent_packets.specs.Free.{is_free_by, taken_by}
use Rattle.qa_sent_packets.specs.Held.{Held}
use Rattle.qa_sent_packets.proofs.Alike.{space_packets_alike, ordered_same, sizes_same}
use Rattle.qa_sent_packets.proofs.Taken.{any_taken, taken_alike, taken_same}
use Rattle.qa_sent_packets.proofs.Sound.{above_same, space_packets_sound, sound_with}
use Rattle.qa_sent_packets.proofs.packets.SentPackets.take.Goals as goal

pub take-self-inside-requires-clause-space_packets : goal.take-self-inside-requires-clause-space_packets
take-self-inside-requires-clause-space_packets c =
    let before = c.self.inside in
    rw c.of_mut-space_packets.ensures.value (space_packets_sound before.queue.dropped before.queue.packets.items before.losses before.by_space c.self.invariant c.args.free.space)

pub invariant_of-self : goal.invariant_of-self
invariant_of-self c =
    let before = c.self.inside in
    let d = before.queue.dropped in
    let ps = before.queue.packets.items in
    let s = c.args.free.space in
    let f = taken_by c.args.free c.args.spans.now in
    let took = c.take-self-inside in
    let long : length (map f ps) ≡ length ps = length-map ps f in
    let few = c.self.invariant.few in
    rw (took.ensures.packets, took.ensures.dropped)
    (sound_with d (map f ps) took.result before.by_space s took.new.space_packets (record {
      owed = rw (took.ensures.packets, took.ensures.dropped) at took.ensures.losses;
      ordered = ordered_same f (taken_same c.args.free c.args.spans.now) ps c.self.invariant.ordered;
      sizes = sizes_same max_packet_size f (taken_same c.args.free c.args.spans.now) ps c.self.invariant.sizes;
      few = omega (arith, long, few);
      above = above_same before.strays f (taken_same c.args.free c.args.spans.now) ps c.self.invariant.above;
    }) (rw (took.ensures.packets, took.ensures.dropped) at took.ensures.space_packets)
    (λ t out. space_packets_alike t f (taken_alike c.args.free c.args.spans.now t out) d ps (of_space t before.by_space) (space_packets_sound d ps before.losses before.by_space c.self.invariant t)))

pub returns-clause-any : goal.returns-clause-any
returns-clause-any c =
    let ps = c.self.inside.queue.packets.items in
    let took = c.take-self-inside in
    any_taken c.args.free c.args.spans.now ps c.self.inside.losses.count took.result.count c.self.invariant.owed.count (took.ensures.losses.count ∙ ap (count_by (λ p. is_owed p.fate)) took.ensures.packets)
    ∙ ap (λ (h : Held). list_any (λ p. is_free_by c.args.free p && is_named c.args.spans.now p.number) h.packets) c.self.view_is

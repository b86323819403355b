use Rattle.std.proofs.Common.{◌∙◌, ap}
use Rattle.std.specs.Prelude.{nat_lt}
use Rattle.std.specs.List.{list_any}
use Rattle.qa_sent_packets.specs.Fates.{is_awaiting}
use Rattle.qa_sent_packets.specs.Held.{Held, IsSpacePackets}
use Rattle.qa_sent_packets.proofs.Sound.{space_packets_sound}
use Rattle.qa_sent_packets.proofs.Totals.{any_counted}
use Rattle.qa_sent_packets.proofs.packets.SentPackets.awaits.Goals as goal

pub returns : goal.returns
returns c =
    let held = c.self.inside in
    let s = c.args.space in
    let space_packets : IsSpacePackets s held.queue.dropped held.queue.packets.items c.of.result.now = rw c.of.ensures (space_packets_sound held.queue.dropped held.queue.packets.items held.losses held.by_space c.self.invariant s) in
    ap (nat_lt 0) space_packets.indexed.awaiting ∙ (any_counted (is_awaiting s) held.queue.packets.items ∙ ap (λ (h : Held). list_any (is_awaiting s) h.packets) c.self.view_is)

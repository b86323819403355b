use Rattle.std.proofs.Common.{◌≡◌, ◌∙◌, ◌&&◌, [], not, is_none, find, sym, ap}
use Rattle.std.specs.List.{list_any}
use Rattle.qa_sent_packets.specs.Fates.{is_awaiting, is_flying}
use Rattle.qa_sent_packets.specs.Held.{Held, IsSpacePackets}
use Rattle.qa_sent_packets.proofs.Sound.{space_packets_sound}
use Rattle.qa_sent_packets.proofs.Totals.{idle_is, none_waits, nothing}
use Rattle.qa_sent_packets.proofs.packets.SentPackets.is_idle.Goals as goal

pub returns-then-is_empty : goal.returns-then-is_empty
returns-then-is_empty c =
    let held = c.self.inside in
    let s = c.args.space in
    let space_packets : IsSpacePackets s held.queue.dropped held.queue.packets.items c.of.result.now = rw c.of.ensures (space_packets_sound held.queue.dropped held.queue.packets.items held.losses held.by_space c.self.invariant s) in
    let empty : c.of.result.now.unacknowledged.entries ≡ [] = nothing _ (sym c.is_empty.ensures ∙ c.if-is_empty.true) in
    let none = none_waits s held.queue.dropped held.queue.packets.items (sym space_packets.indexed.entries ∙ empty) in
    idle_is s held.queue.packets.items none.0 none.1
    ∙ ap (λ (h : Held). not (list_any (is_awaiting s) h.packets) && is_none (find (is_flying s) h.packets)) c.self.view_is

use Rattle.std.proofs.Common.{◌≡◌, ◌∙◌, ◌-◌, ◌≤◌, ◌<◌, length, sym, ap, arith, rules}
use Rattle.std.specs.Prelude.{find}
use Rattle.std.specs.VecDeque.{deque_len}
use Rattle.qa_sent_packets.specs.Fates.{is_flying}
use Rattle.qa_sent_packets.specs.Held.{Held, IsSpacePackets}
use Rattle.qa_sent_packets.proofs.Sound.{space_packets_sound}
use Rattle.qa_sent_packets.proofs.Totals.{find_nowhere, find_not, find_there}
use Rattle.qa_sent_packets.proofs.packets.SentPackets.first_flying_ref.Goals as goal

pub returns-in-None : goal.returns-in-None
returns-in-None c =
    let held = c.self.inside in
    let s = c.args.space in
    let space_packets : IsSpacePackets s held.queue.dropped held.queue.packets.items c.of.result.now = rw c.of.ensures (space_packets_sound held.queue.dropped held.queue.packets.items held.losses held.by_space c.self.invariant s) in
    let at = c.of.result.now.next - held.queue.dropped in
    let past : deque_len held.queue.packets ≤ at = search rules in
    let len : deque_len held.queue.packets ≡ length held.queue.packets.items = held.queue.packets.ok.0 in
    sym (find_nowhere s at held.queue.packets.items space_packets.behind.none (omega (arith, past, len))) ∙ ap (λ (h : Held). find (is_flying s) h.packets) c.self.view_is

pub returns-then-flies_in : goal.returns-then-flies_in
returns-then-flies_in c =
    let held = c.self.inside in
    let s = c.args.space in
    let space_packets : IsSpacePackets s held.queue.dropped held.queue.packets.items c.of.result.now = rw c.of.ensures (space_packets_sound held.queue.dropped held.queue.packets.items held.losses held.by_space c.self.invariant s) in
    let at = c.of.result.now.next - held.queue.dropped in
    let within : at < deque_len held.queue.packets = search rules in
    let len : deque_len held.queue.packets ≡ length held.queue.packets.items = held.queue.packets.ok.0 in
    sym (find_there s at held.queue.packets.items c.in-Some.packet.now space_packets.behind.none (omega (arith, within, len)) c.in-Some.ensures.lookup (sym c.flies_in.ensures ∙ c.if-flies_in.true))
    ∙ ap (λ (h : Held). find (is_flying s) h.packets) c.self.view_is

pub returns-else-flies_in : goal.returns-else-flies_in
returns-else-flies_in c =
    let held = c.self.inside in
    let s = c.args.space in
    let space_packets : IsSpacePackets s held.queue.dropped held.queue.packets.items c.of.result.now = rw c.of.ensures (space_packets_sound held.queue.dropped held.queue.packets.items held.losses held.by_space c.self.invariant s) in
    let at = c.of.result.now.next - held.queue.dropped in
    let within : at < deque_len held.queue.packets = search rules in
    let len : deque_len held.queue.packets ≡ length held.queue.packets.items = held.queue.packets.ok.0 in
    sym (find_not s at held.queue.packets.items c.in-Some.packet.now space_packets.behind.none space_packets.first (omega (arith, within, len)) c.in-Some.ensures.lookup (sym c.flies_in.ensures ∙ c.if-flies_in.false))
    ∙ ap (λ (h : Held). find (is_flying s) h.packets) c.self.view_is

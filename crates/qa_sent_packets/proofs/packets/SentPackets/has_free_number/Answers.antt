use Rattle.std.proofs.Common.{◌≡◌, ◌∙◌, ◌-◌, length, sym, ap, arith}
use Rattle.std.specs.VecDeque.{deque_len}
use Rattle.qa_base.specs.machine.Numbers.{is_in}
use Rattle.qa_sent_packets.specs.Free.{free_numbers, is_free_by}
use Rattle.qa_sent_packets.specs.Held.{Held, IsIndexed}
use Rattle.qa_sent_packets.proofs.Numbers.{none_past}
use Rattle.qa_sent_packets.proofs.Sound.{space_packets_sound}
use Rattle.qa_sent_packets.proofs.Taken.{all_free_wait, entry_leads, entry_none, entry_passes}
use Rattle.qa_sent_packets.proofs.packets.SentPackets.has_free_number.Goals as goal

pub returns-then-free-number : goal.returns-then-free-number
returns-then-free-number c = none_past c.args.free c.args.self.now.packets c.args.number (omega arith)

pub overflow_sub-entry : goal.overflow_sub-entry
overflow_sub-entry c =
    let held = c.self.inside in
    let s = c.args.free.space in
    let indexed : IsIndexed s held.queue.dropped held.queue.packets.items c.of-space_packets.result.now = rw c.of-space_packets.ensures ((space_packets_sound held.queue.dropped held.queue.packets.items held.losses held.by_space c.self.invariant s).indexed) in
    (entry_leads s held.queue.dropped c.args.number held.queue.packets.items c.of-space_packets.result.now.unacknowledged.entries c.entry_at.result c.in-Some.entry indexed.entries c.entry_at.ensures c.in-Some.is).0

pub index-requires : goal.index-requires
index-requires c =
    let held = c.self.inside in
    let s = c.args.free.space in
    let indexed : IsIndexed s held.queue.dropped held.queue.packets.items c.of-space_packets.result.now = rw c.of-space_packets.ensures ((space_packets_sound held.queue.dropped held.queue.packets.items held.losses held.by_space c.self.invariant s).indexed) in
    let found = (entry_leads s held.queue.dropped c.args.number held.queue.packets.items c.of-space_packets.result.now.unacknowledged.entries c.entry_at.result c.in-Some.entry indexed.entries c.entry_at.ensures c.in-Some.is).1 in
    let len : deque_len held.queue.packets ≡ length held.queue.packets.items = held.queue.packets.ok.0 in
    omega (arith, found.within, len)

pub returns-in-None : goal.returns-in-None
returns-in-None c =
    let held = c.self.inside in
    let s = c.args.free.space in
    let indexed : IsIndexed s held.queue.dropped held.queue.packets.items c.of-space_packets.result.now = rw c.of-space_packets.ensures ((space_packets_sound held.queue.dropped held.queue.packets.items held.losses held.by_space c.self.invariant s).indexed) in
    sym (entry_none s (is_free_by c.args.free) held.queue.dropped c.args.number held.queue.packets.items c.of-space_packets.result.now.unacknowledged.entries c.entry_at.result (all_free_wait c.args.free held.queue.packets.items) indexed.entries c.entry_at.ensures c.in-None.is)
    ∙ ap (λ (h : Held). is_in (free_numbers c.args.free h.packets) c.args.number) c.self.view_is

pub returns-in-Some : goal.returns-in-Some
returns-in-Some c =
    let held = c.self.inside in
    let s = c.args.free.space in
    let indexed : IsIndexed s held.queue.dropped held.queue.packets.items c.of-space_packets.result.now = rw c.of-space_packets.ensures ((space_packets_sound held.queue.dropped held.queue.packets.items held.losses held.by_space c.self.invariant s).indexed) in
    let found = (entry_leads s held.queue.dropped c.args.number held.queue.packets.items c.of-space_packets.result.now.unacknowledged.entries c.entry_at.result c.in-Some.entry indexed.entries c.entry_at.ensures c.in-Some.is).1 in
    c.has.ensures
    ∙ (sym (entry_passes s (is_free_by c.args.free) held.queue.dropped c.args.number (c.in-Some.entry.1 - held.queue.dropped) held.queue.packets.items c.index.result.now c.self.invariant.ordered (all_free_wait c.args.free held.queue.packets.items) found c.index.ensures)
    ∙ ap (λ (h : Held). is_in (free_numbers c.args.free h.packets) c.args.number) c.self.view_is)

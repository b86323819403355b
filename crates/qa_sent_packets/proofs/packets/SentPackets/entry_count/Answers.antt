use Rattle.std.proofs.Common.{◌≡◌, length, ap, arith}
use Rattle.qa_sent_packets.specs.Held.{Held}
use Rattle.qa_sent_packets.proofs.Totals.{entries_kept}
use Rattle.qa_sent_packets.proofs.packets.SentPackets.entry_count.Goals as goal

pub len-requires : goal.len-requires
len-requires c =
    let fewer = entries_kept c.self.inside.queue.dropped c.self.inside.queue.packets.items c.self.inside.losses c.self.inside.by_space c.self.invariant in
    let few = c.self.invariant.few in
    omega (arith, fewer, few)

pub len-requires-2 : goal.len-requires-2
len-requires-2 c =
    let fewer = entries_kept c.self.inside.queue.dropped c.self.inside.queue.packets.items c.self.inside.losses c.self.inside.by_space c.self.invariant in
    let few = c.self.invariant.few in
    omega (arith, fewer, few)

pub len-requires-3 : goal.len-requires-3
len-requires-3 c =
    let fewer = entries_kept c.self.inside.queue.dropped c.self.inside.queue.packets.items c.self.inside.losses c.self.inside.by_space c.self.invariant in
    let few = c.self.invariant.few in
    omega (arith, fewer, few)

pub overflow_add-entries : goal.overflow_add-entries
overflow_add-entries c =
    let fewer = entries_kept c.self.inside.queue.dropped c.self.inside.queue.packets.items c.self.inside.losses c.self.inside.by_space c.self.invariant in
    let few = c.self.invariant.few in
    omega (arith, fewer, few, c.len.ensures.len, c.len-2.ensures.len)

pub overflow_add-entries-2 : goal.overflow_add-entries-2
overflow_add-entries-2 c =
    let fewer = entries_kept c.self.inside.queue.dropped c.self.inside.queue.packets.items c.self.inside.losses c.self.inside.by_space c.self.invariant in
    let few = c.self.invariant.few in
    omega (arith, fewer, few, c.len.ensures.len, c.len-2.ensures.len, c.len-3.ensures.len)

pub returns-clause-bound : goal.returns-clause-bound
returns-clause-bound c =
    let fewer = entries_kept c.self.inside.queue.dropped c.self.inside.queue.packets.items c.self.inside.losses c.self.inside.by_space c.self.invariant in
    let same : length c.self.inside.queue.packets.items ≡ length c.args.self.now.packets = ap (λ (h : Held). length h.packets) c.self.view_is in
    omega (arith, fewer, same, c.len.ensures.len, c.len-2.ensures.len, c.len-3.ensures.len)

use Rattle.std.proofs.Common.{◌∙◌, ap, arith, sum_by}
use Rattle.qa_sent_packets.specs.Fates.{flight_bytes}
use Rattle.qa_sent_packets.specs.Held.{Held}
use Rattle.qa_sent_packets.proofs.Totals.{total}
use Rattle.qa_sent_packets.proofs.packets.SentPackets.bytes_in_flight.Goals as goal

pub overflow_add-result : goal.overflow_add-result
overflow_add-result c = let t = total c.self.inside.queue.dropped c.self.inside.queue.packets.items c.self.inside.losses c.self.inside.by_space c.self.invariant in omega (arith, t.sum, t.bound)

pub overflow_add-result-2 : goal.overflow_add-result-2
overflow_add-result-2 c = let t = total c.self.inside.queue.dropped c.self.inside.queue.packets.items c.self.inside.losses c.self.inside.by_space c.self.invariant in omega (arith, t.sum, t.bound)

pub returns-clause-sum : goal.returns-clause-sum
returns-clause-sum c =
    (total c.self.inside.queue.dropped c.self.inside.queue.packets.items c.self.inside.losses c.self.inside.by_space c.self.invariant).sum
    ∙ ap (λ (h : Held). sum_by flight_bytes h.packets) c.self.view_is

pub returns-clause-bound : goal.returns-clause-bound
returns-clause-bound c = let t = total c.self.inside.queue.dropped c.self.inside.queue.packets.items c.self.inside.losses c.self.inside.by_space c.self.invariant in omega (arith, t.sum, t.bound)

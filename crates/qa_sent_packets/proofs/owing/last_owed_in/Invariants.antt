use Rattle.std.proofs.Common.{◌≡◌, None}
use Rattle.std.specs.Prelude.{slice_range}
use Rattle.std.specs.VecDeque.Iter.{deque_iter_rest}
use Rattle.qa_sent_packets.specs.Walks.{last_owed}
use Rattle.qa_sent_packets.proofs.owing.last_owed_in.Given as goal

abbrev pub invariant-loop-packet : goal.invariant-loop-packet
invariant-loop-packet l = last_owed l.fn.by_order l.last (deque_iter_rest l.packet-iterator) ≡ last_owed l.fn.by_order None (slice_range l.packets.items l.fn.part.start l.fn.part.end)

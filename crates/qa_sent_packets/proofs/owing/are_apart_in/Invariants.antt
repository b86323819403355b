use Rattle.std.proofs.Common.{◌≡◌, None}
use Rattle.std.specs.Prelude.{slice_range}
use Rattle.std.specs.VecDeque.Iter.{deque_iter_rest}
use Rattle.qa_sent_packets.specs.Walks.{are_apart}
use Rattle.qa_sent_packets.proofs.owing.are_apart_in.Given as goal

abbrev pub invariant-loop-packet : goal.invariant-loop-packet
invariant-loop-packet l = are_apart l.limit l.first l.began (deque_iter_rest l.packet-iterator) ≡ are_apart l.limit l.first None (slice_range l.packets.items l.fn.part.start l.fn.part.end)

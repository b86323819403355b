use Rattle.std.proofs.Common.{◌≡◌, ◌++◌}
use Rattle.std.specs.Prelude.{slice_range}
use Rattle.std.specs.VecDeque.Iter.{deque_iter_rest}
use Rattle.qa_sent_packets.specs.Walks.{owed_numbers}
use Rattle.qa_sent_packets.proofs.owing.owed_numbers_in.Given as goal

abbrev pub invariant-loop-packet : goal.invariant-loop-packet
invariant-loop-packet l = l.found.items ++ owed_numbers (deque_iter_rest l.packet-iterator) ≡ owed_numbers (slice_range l.packets.items l.fn.part.start l.fn.part.end)

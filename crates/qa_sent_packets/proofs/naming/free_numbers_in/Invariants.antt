use Rattle.std.proofs.Common.{◌≡◌, ◌++◌}
use Rattle.std.specs.VecDeque.Iter.{deque_iter_rest}
use Rattle.qa_sent_packets.specs.Free.{free_numbers}
use Rattle.qa_sent_packets.proofs.naming.free_numbers_in.Given as goal

abbrev pub invariant-loop-packet : goal.invariant-loop-packet
invariant-loop-packet l = l.found.items ++ free_numbers l.fn.free (deque_iter_rest l.packet-iterator) ≡ free_numbers l.fn.free l.packets.items

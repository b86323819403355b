use Rattle.std.proofs.Common.{◌↔◌}
use Rattle.std.specs.Prelude.{IsTrue}
use Rattle.std.specs.VecDeque.Iter.{deque_iter_rest}
use Rattle.qa_base.specs.machine.Numbers.{is_in, names_between}
use Rattle.qa_base.specs.values.Events.{is_named}
use Rattle.qa_sent_packets.specs.Free.{free_numbers, nameable_numbers}
use Rattle.qa_sent_packets.specs.Naming.{AreNext, IsWalk}
use Rattle.qa_sent_packets.specs.Walks.{owed_numbers}
use Rattle.qa_sent_packets.proofs.packets.SentPackets.names_losses.Given as goal

abbrev pub invariant-loop-packet : goal.invariant-loop-packet
invariant-loop-packet l = record {
  walk : IsWalk l.spans l.named;
  next : AreNext (is_named l.spans) (is_in (free_numbers l.fn.free l.self.packets)) l.named.from (owed_numbers (deque_iter_rest l.packet-iterator))
      ↔ IsTrue (names_between l.spans (owed_numbers l.self.packets) (nameable_numbers l.fn.free l.self.packets));
}

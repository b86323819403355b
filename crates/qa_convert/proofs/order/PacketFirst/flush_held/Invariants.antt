use Rattle.std.proofs.Common.{◌≡◌, ◌++◌, length}
use Rattle.qa_convert.proofs.order.PacketFirst.flush_held.Given as goal

abbrev pub invariant-loop-event : goal.invariant-loop-event
invariant-loop-event l = record {
  all : l.out.items ++ l.self.held.items ≡ l.initial.out.items ++ l.initial.self.held.items;
  timed : l.self.is_timed ≡ l.initial.self.is_timed;
}

abbrev pub decreases-loop-event : goal.decreases-loop-event
decreases-loop-event l = length l.self.held.items

use Rattle.std.proofs.Common.{◌≤◌, ◌-◌, length, take}
use Rattle.qa_sent_packets.specs.Held.{NoneFlies}
use Rattle.qa_sent_packets.proofs.queue.PacketQueue.advance.Given as goal

abbrev pub invariant-loop-space : goal.invariant-loop-space
invariant-loop-space l = record {
  within : l.at ≤ length l.self.packets.items;
  none : NoneFlies l.space (take l.at l.self.packets.items);
}

abbrev pub decreases-loop-space : goal.decreases-loop-space
decreases-loop-space l = length l.self.packets.items - l.at

use Rattle.std.proofs.Common.{◌≡◌, ◌≤◌, ◌-◌, ◌++◌, count_by, drop, length, map, take}
use Rattle.qa_sent_packets.specs.Fates.{is_owed}
use Rattle.qa_sent_packets.specs.Held.{IsIndexed, NoneFlies}
use Rattle.qa_sent_packets.specs.Steps.{found_by}
use Rattle.qa_sent_packets.proofs.queue.PacketQueue.detect.Given as goal

abbrev pub invariant-loop-self : goal.invariant-loop-self
invariant-loop-self l = record {
  dropped : l.self.dropped ≡ l.fn.self.dropped;
  packets : l.self.packets.items ≡ map (found_by l.space l.thresholds) (take l.at l.fn.self.packets.items) ++ drop l.at l.fn.self.packets.items;
  within : l.at ≤ length l.fn.self.packets.items;
  indexed : IsIndexed l.space l.self.dropped l.self.packets.items l.space_packets;
  none : NoneFlies l.space (take l.at l.self.packets.items);
  count : l.count ≡ count_by (λ p. is_owed p.fate) l.self.packets.items;
  next : l.space_packets.next ≡ l.fn.space_packets.next;
}

abbrev pub decreases-loop-self : goal.decreases-loop-self
decreases-loop-self l = length l.fn.self.packets.items - l.at

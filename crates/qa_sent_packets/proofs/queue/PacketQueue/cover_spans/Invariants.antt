use Rattle.std.proofs.Common.{◌≡◌, ◌≤◌, ◌<◌, ◌++◌, ℕ, filter, get_or, drop, length, map, take}
use Rattle.std.specs.List.{AllByRecursion}
use Rattle.std.specs.Vec.{vec_capacity, vec_len}
use Rattle.qa_sent_packets.specs.Covering.{AreClear, HasRoom}
use Rattle.qa_sent_packets.specs.Fates.{is_new}
use Rattle.qa_sent_packets.specs.Held.{IsIndexed}
use Rattle.qa_sent_packets.specs.Naming.{turned}
use Rattle.qa_sent_packets.specs.Steps.{covered_by}
use Rattle.qa_sent_packets.proofs.queue.PacketQueue.cover_spans.Given as goal

abbrev pub invariant-loop-at : goal.invariant-loop-at
invariant-loop-at l = record {
  dropped : l.self.dropped ≡ l.fn.self.dropped;
  indexed : IsIndexed l.space l.self.dropped l.self.packets.items l.space_packets;
  packets : l.self.packets.items ≡ map (covered_by l.space (take l.at (turned l.falling l.spans))) l.fn.self.packets.items;
  new : l.found.items ≡ l.fn.found.items ++ filter (is_new l.space (take l.at (turned l.falling l.spans))) l.fn.self.packets.items;
  forward : AllByRecursion (λ (r : ℕ × ℕ). r.0 ≤ r.1) (take l.at (turned l.falling l.spans));
  clear : (r : ℕ × ℕ) → l.at < length (turned l.falling l.spans) → r ≡ get_or (turned l.falling l.spans) l.at r → AreClear r.0 l.least l.space_packets.unacknowledged.entries;
  room : HasRoom (vec_len l.found) (vec_capacity l.found) l.space_packets.unacknowledged.entries (drop l.at (turned l.falling l.spans));
  next : l.space_packets.next ≡ l.fn.space_packets.next;
}

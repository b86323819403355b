use Rattle.std.proofs.Common.{◌≡◌, ◌≤◌, ◌+◌, ◌++◌, ℕ, filter, length, map}
use Rattle.std.specs.Vec.{vec_capacity, vec_len}
use Rattle.qa_sent_packets.specs.Covering.{count_in, covered_in, is_new_in}
use Rattle.qa_sent_packets.specs.Held.{IsIndexed}
use Rattle.qa_sent_packets.proofs.queue.PacketQueue.cover_span.Given as goal

abbrev pub invariant-loop-number : goal.invariant-loop-number
invariant-loop-number l = record {
  dropped : l.self.dropped ≡ l.fn.self.dropped;
  indexed : IsIndexed l.space l.self.dropped l.self.packets.items l.space_packets;
  packets : map (covered_in l.space l.lo l.hi) l.self.packets.items ≡ map (covered_in l.space l.lo l.hi) l.fn.self.packets.items;
  new : l.found.items ++ filter (is_new_in l.space l.lo l.hi) l.self.packets.items ≡ l.fn.found.items ++ filter (is_new_in l.space l.lo l.hi) l.fn.self.packets.items;
  fits : vec_len l.found + count_in l.lo l.hi l.space_packets.unacknowledged.entries ≤ vec_capacity l.found;
  room : vec_len l.found + count_in l.lo l.hi l.space_packets.unacknowledged.entries ≤ vec_len l.fn.found + count_in l.lo l.hi l.fn.space_packets.unacknowledged.entries;
  left : (lo hi : ℕ) → count_in lo hi l.space_packets.unacknowledged.entries ≤ count_in lo hi l.fn.space_packets.unacknowledged.entries;
  capacity : vec_capacity l.found ≡ vec_capacity l.fn.found;
  next : l.space_packets.next ≡ l.fn.space_packets.next;
}

abbrev pub decreases-loop-number : goal.decreases-loop-number
decreases-loop-number l = length l.space_packets.unacknowledged.entries

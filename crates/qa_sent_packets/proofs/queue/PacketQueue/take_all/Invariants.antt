use Rattle.std.proofs.Common.{◌≡◌, ◌-◌, ◌≤◌, ℕ, length, map, true}
use Rattle.qa_base.specs.machine.Numbers.{is_in}
use Rattle.qa_base.specs.values.Events.{is_named}
use Rattle.qa_sent_packets.specs.Free.{is_free_by, numbers_of, taken_by}
use Rattle.qa_sent_packets.specs.Held.{AreLosses, AreOrdered, IsIndexed}
use Rattle.qa_sent_packets.specs.Naming.{IsWalk}
use Rattle.qa_sent_packets.proofs.queue.PacketQueue.take_all.Given as goal

abbrev pub invariant-loop-number : goal.invariant-loop-number
invariant-loop-number l = record {
  dropped : l.self.dropped ≡ l.fn.self.dropped;
  walk : IsWalk l.spans l.named;
  packets : map (taken_by l.free l.spans) l.self.packets.items ≡ map (taken_by l.free l.spans) l.fn.self.packets.items;
  left : (n : ℕ) → is_in (numbers_of (is_free_by l.free) l.self.packets.items) n ≡ true → is_named l.spans n ≡ true → l.named.from ≤ n;
  long : length l.self.packets.items ≡ length l.fn.self.packets.items;
  ordered : AreOrdered l.self.packets.items;
  indexed : IsIndexed l.free.space l.self.dropped l.self.packets.items l.space_packets;
  next : l.space_packets.next ≡ l.fn.space_packets.next;
  losses : AreLosses l.self.dropped l.self.packets.items l.losses;
  space : l.losses.space ≡ l.free.space;
}

abbrev pub decreases-loop-number : goal.decreases-loop-number
decreases-loop-number l = 18446744073709551616 - l.named.from

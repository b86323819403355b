use Rattle.std.proofs.Common.{◌≡◌, ◌-◌, ◌≤◌, ◌<◌, ℕ, true}
use Rattle.qa_base.specs.machine.Numbers.{is_in}
use Rattle.qa_base.specs.values.Events.{is_named}
use Rattle.qa_sent_packets.specs.Free.{free_numbers}
use Rattle.qa_sent_packets.specs.Naming.{IsWalk}
use Rattle.qa_sent_packets.proofs.packets.SentPackets.are_free.Given as goal

abbrev pub invariant-loop-number : goal.invariant-loop-number
invariant-loop-number l = record {
  walk : IsWalk l.spans l.named;
  low : l.fn.named.from ≤ l.named.from;
  passed : (n : ℕ) → l.fn.named.from ≤ n → n < l.named.from → is_named l.spans n ≡ true → is_in (free_numbers l.fn.free l.self.packets) n ≡ true;
}

abbrev pub decreases-loop-number : goal.decreases-loop-number
decreases-loop-number l = 18446744073709551616 - l.named.from

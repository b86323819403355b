use Rattle.std.proofs.Common.{◌-◌, ◌≤◌, ◌≡◌, length, drop}
use Rattle.qa_sent_packets.specs.Covering.{first_from}
use Rattle.qa_sent_packets.proofs.unacknowledged.first_recent.Given as goal

abbrev pub invariant-loop-i : goal.invariant-loop-i
invariant-loop-i l = record {
  within : l.i ≤ length l.recent.items;
  same : first_from l.lo (drop l.i l.recent.items) ≡ first_from l.lo l.recent.items;
}

abbrev pub decreases-loop-i : goal.decreases-loop-i
decreases-loop-i l = length l.recent.items - l.i

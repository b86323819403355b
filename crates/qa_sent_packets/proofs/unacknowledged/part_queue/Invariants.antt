use Rattle.std.proofs.Common.{◌≡◌, ◌≤◌, ◌<◌, ◌++◌, ℕ, length}
use Rattle.std.specs.List.{AllByRecursion}
use Rattle.qa_sent_packets.specs.Unacknowledged.{EntriesRise}
use Rattle.qa_sent_packets.proofs.unacknowledged.part_queue.Given as goal

abbrev pub invariant-loop-gaps : goal.invariant-loop-gaps
invariant-loop-gaps l = record {
  same : l.gaps.entries ++ l.recent.items ≡ l.fn.gaps.entries ++ l.fn.recent.items;
  rising : EntriesRise (l.gaps.entries ++ l.recent.items);
  below : (end : ℕ) → l.number ≤ end → AllByRecursion (λ e. e.0 < end) l.fn.gaps.entries → AllByRecursion (λ e. e.0 < end) l.gaps.entries;
}

abbrev pub decreases-loop-gaps : goal.decreases-loop-gaps
decreases-loop-gaps l = length l.recent.items

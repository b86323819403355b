use Rattle.std.proofs.Common.{◌-◌, ◌≤◌, ◌≡◌, ◌++◌, length, take, drop}
use Rattle.std.specs.Map.{remove_entry}
use Rattle.std.specs.BTreeMap.{is_at}
use Rattle.std.specs.Ordering.{nat_cmp}
use Rattle.qa_sent_packets.proofs.unacknowledged.index_of.Given as goal

abbrev pub invariant-loop-i : goal.invariant-loop-i
invariant-loop-i l = record {
  within : l.i ≤ length l.recent.items;
  same : take l.i l.recent.items ++ remove_entry (is_at (nat_cmp l.number)) (drop l.i l.recent.items) ≡ remove_entry (is_at (nat_cmp l.number)) l.recent.items;
}

abbrev pub decreases-loop-i : goal.decreases-loop-i
decreases-loop-i l = length l.recent.items - l.i

use Rattle.std.proofs.Common.{◌≡◌, ◌≤◌, ℕ, length, nat_le, take}
use Rattle.qa_packet_numbers.specs.Counting.{total_in}
use Rattle.qa_packet_numbers.proofs.ranges.Ranges.end_below.Given as goal

-- the numbers that are left to be counted are those of the runs that were not passed
abbrev pub invariant-loop-at : goal.invariant-loop-at
invariant-loop-at l = record {
  within : l.at ≤ length l.self-inside.runs.items;
  some : 1 ≤ l.left;
  left : (n : ℕ) → nat_le l.count (total_in n l.top l.self-inside.runs.items) ≡ nat_le l.left (total_in n l.top (take l.at l.self-inside.runs.items));
}

abbrev pub decreases-loop-at : goal.decreases-loop-at
decreases-loop-at l = l.at

use Rattle.std.proofs.Common.{◌-◌, ◌≤◌, length}
use Rattle.qa_scan.proofs.numbers.parts_ahead.Given as goal

abbrev pub invariant-loop-i : goal.invariant-loop-i
invariant-loop-i l = l.i ≤ length l.bytes

abbrev pub decreases-loop-i : goal.decreases-loop-i
decreases-loop-i l = length l.bytes - l.i

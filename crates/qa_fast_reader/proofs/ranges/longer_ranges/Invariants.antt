use Rattle.std.proofs.Common.{List, ℕ}
use Rattle.qa_fast_reader.specs.Ranges.{FollowsRanges}
use Rattle.qa_fast_reader.proofs.ranges.longer_ranges.Given as goal

abbrev pub invariant-loop-i : goal.invariant-loop-i
invariant-loop-i l = (whole : List ℕ) → FollowsRanges l.fn.spans whole l.fn.bytes → FollowsRanges l.spans whole l.rest

use Rattle.std.proofs.Common.{length}
use Rattle.qa_fast_reader.specs.Ranges.{FollowsRanges}
use Rattle.qa_fast_reader.proofs.ranges.exact_ranges.Given as goal

abbrev pub invariant-loop-rest : goal.invariant-loop-rest
invariant-loop-rest l = FollowsRanges l.spans l.bytes l.rest

abbrev pub decreases-loop-rest : goal.decreases-loop-rest
decreases-loop-rest l = length l.rest

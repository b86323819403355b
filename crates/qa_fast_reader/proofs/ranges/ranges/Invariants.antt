use Rattle.qa_fast_reader.specs.Ranges.{FollowsRanges}
use Rattle.qa_fast_reader.proofs.ranges.ranges.Given as goal

abbrev pub invariant-loop-i : goal.invariant-loop-i
invariant-loop-i l = FollowsRanges l.spans l.bytes l.rest

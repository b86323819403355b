use Rattle.std.proofs.Common.{◌≡◌, take, Some}
use Rattle.qaudit_c.specs.Events.{ranges_of}
use Rattle.qaudit_c.proofs.events.spans_of.Given as goal

abbrev pub invariant-loop-range : goal.invariant-loop-range
invariant-loop-range l = record {
  said : ranges_of (take l.range-index l.ranges) ≡ Some l.spans;
}

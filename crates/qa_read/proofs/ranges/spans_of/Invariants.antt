use Rattle.std.proofs.Common.{◌≡◌, true, take}
use Rattle.std.specs.List.{list_all}
use Rattle.qa_format.specs.format.Keys as keys
use Rattle.qa_read.proofs.ranges.spans_of.Given as goal

abbrev pub invariant-loop-pair : goal.invariant-loop-pair
invariant-loop-pair l = record {
  spans : l.spans ≡ take l.pair-index l.pairs;
  each : list_all keys.is_range (take l.pair-index l.pairs) ≡ true;
}

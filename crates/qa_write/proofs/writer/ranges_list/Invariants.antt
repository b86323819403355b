use Rattle.std.proofs.Common.{◌≡◌, map, take}
use Rattle.std.specs.List.{AllByRecursion}
use Rattle.serde_json.specs.View.{view}
use Rattle.qa_format.specs.format.Proper.{IsRange}
use Rattle.qa_format.specs.format.Written.{integer_pair}
use Rattle.qa_write.proofs.writer.ranges_list.Given as goal

abbrev pub invariant-loop-range : goal.invariant-loop-range
invariant-loop-range l =
    record {
      listed : map view l.list.items ≡ map integer_pair (take l.range-index l.range-items);
      are_ranges : AllByRecursion IsRange (take l.range-index l.range-items);
    }

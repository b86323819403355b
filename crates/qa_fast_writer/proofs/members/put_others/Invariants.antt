use Rattle.std.proofs.Common.{◌≡◌, ◌++◌, take}
use Rattle.std.specs.List.{AllByRecursion}
use Rattle.qa_format.specs.format.Proper.{IsRange}
use Rattle.qa_fast_writer.specs.Members.{led_pairs}
use Rattle.qa_fast_writer.proofs.members.put_others.Given as goal

abbrev pub invariant-loop-range : goal.invariant-loop-range
invariant-loop-range l =
    record {
      put : l.out.items ≡ l.fn.out.items ++ led_pairs (take l.range-index l.ranges);
      are_ranges : AllByRecursion IsRange (take l.range-index l.ranges);
    }

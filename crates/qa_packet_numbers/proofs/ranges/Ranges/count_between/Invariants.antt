use Rattle.std.proofs.Common.{◌≡◌, take}
use Rattle.qa_packet_numbers.specs.Counting.{total_in}
use Rattle.qa_packet_numbers.proofs.ranges.Ranges.count_between.Given as goal

-- those of the runs that were passed
abbrev pub invariant-loop-run : goal.invariant-loop-run
invariant-loop-run l = l.count ≡ total_in l.number l.top (take l.run-index l.run-items)

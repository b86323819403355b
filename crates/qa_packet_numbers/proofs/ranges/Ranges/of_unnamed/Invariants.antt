use Rattle.std.proofs.Common.{◌≡◌, drop, fold}
use Rattle.qa_packet_numbers.specs.Missing.{runs_of, unnamed, with_number}
use Rattle.qa_packet_numbers.proofs.ranges.Ranges.of_unnamed.Given as goal

abbrev pub invariant-loop-number : goal.invariant-loop-number
invariant-loop-number l = fold with_number l.set (unnamed l.spans (drop l.number-index l.numbers)) ≡ runs_of (unnamed l.spans l.numbers)

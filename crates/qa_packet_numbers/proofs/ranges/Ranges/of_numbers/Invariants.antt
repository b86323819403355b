use Rattle.std.proofs.Common.{◌≡◌, drop, fold}
use Rattle.qa_packet_numbers.specs.Missing.{runs_of, with_number}
use Rattle.qa_packet_numbers.proofs.ranges.Ranges.of_numbers.Given as goal

abbrev pub invariant-loop-number : goal.invariant-loop-number
invariant-loop-number l = fold with_number l.set (drop l.number-index l.numbers) ≡ runs_of l.numbers

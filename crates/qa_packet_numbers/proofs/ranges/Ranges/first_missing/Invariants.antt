use Rattle.std.proofs.Common.{take}
use Rattle.qa_packet_numbers.specs.Missing.{IsFirstMissing}
use Rattle.qa_packet_numbers.proofs.ranges.Ranges.first_missing.Given as goal

abbrev pub invariant-loop-span : goal.invariant-loop-span
invariant-loop-span l = IsFirstMissing l.self (take l.span-index l.spans) l.first

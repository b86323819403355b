use Rattle.std.proofs.Common.{◌≡◌, ℕ, List, drop}
use Rattle.qa_base.specs.machine.Numbers.{Names, has_all}
use Rattle.qa_packet_numbers.proofs.sent.SentNumbers.were_sent.Given as goal

-- those before are covered, so the rest decides
abbrev pub invariant-loop-range : goal.invariant-loop-range
invariant-loop-range l = (ns : List ℕ) → Names l.sent ns → has_all ns (drop l.range-index l.ranges) ≡ has_all ns l.ranges

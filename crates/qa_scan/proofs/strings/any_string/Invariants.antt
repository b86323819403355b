use Rattle.std.proofs.Common.{◌-◌, length}
use Rattle.qa_scan.specs.Strings.{IsPart}
use Rattle.qa_scan.proofs.strings.any_string.Given as goal

abbrev pub invariant-loop-i : goal.invariant-loop-i
invariant-loop-i l = IsPart l.inside 0 l.i

abbrev pub decreases-loop-i : goal.decreases-loop-i
decreases-loop-i l = length l.inside - l.i

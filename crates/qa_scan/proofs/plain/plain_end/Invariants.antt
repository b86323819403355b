use Rattle.std.proofs.Common.{◌-◌, length}
use Rattle.qa_scan.specs.Strings.{ArePlain}
use Rattle.qa_scan.proofs.plain.plain_end.Given as goal

abbrev pub invariant-loop-i : goal.invariant-loop-i
invariant-loop-i l = ArePlain l.bytes l.start l.i

abbrev pub decreases-loop-i : goal.decreases-loop-i
decreases-loop-i l = length l.bytes - l.i

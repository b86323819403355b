use Rattle.std.proofs.Common.{refl, arith}
use Rattle.qa_scan.proofs.words.eights.Goals as goal

pub loop-i-init : goal.loop-i-init
loop-i-init c = record { within = omega arith; same = refl }

pub loop-i-preserved : goal.loop-i-preserved
loop-i-preserved c = record { within = omega arith; same = c.eight_equal.ensures c.if-not-eight_equal.false c.loop-i.invariant.same }

pub returns : goal.returns
returns c = (c.loop-i.invariant.within, c.loop-i.invariant.same)

use Rattle.std.proofs.Common.{arith}
use Rattle.qa_scan.proofs.words.fours.Goals as goal

pub loop-i-init : goal.loop-i-init
loop-i-init c = record { within = c.in_ok-i.ensures.0; same = c.in_ok-i.ensures.1 }

pub loop-i-preserved : goal.loop-i-preserved
loop-i-preserved c = record { within = omega arith; same = c.four_equal.ensures c.if-not-four_equal.false c.loop-i.invariant.same }

pub returns : goal.returns
returns c = (c.loop-i.invariant.within, c.loop-i.invariant.same)

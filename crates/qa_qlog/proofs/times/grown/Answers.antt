use Rattle.std.proofs.Common.{◌∙◌, arith}
use Rattle.qa_qlog.specs.Times.{cap}
use Rattle.qa_qlog.proofs.Digits.{capped_tens}
use Rattle.qa_qlog.proofs.times.grown.Goals as goal

pub loop-i-preserved : goal.loop-i-preserved
loop-i-preserved c = record {
  small = omega arith;
  is = λ n start. c.min-value-in-loop-i.ensures ∙ capped_tens cap n c.loop-i._i c.loop-i.value (c.loop-i.invariant.is n start);
}

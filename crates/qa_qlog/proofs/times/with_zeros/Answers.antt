use Rattle.std.proofs.Common.{arith}
use Rattle.qa_qlog.proofs.Short.{tens_more, tens_within}
use Rattle.qa_qlog.proofs.times.with_zeros.Goals as goal

pub overflow_mul-value : goal.overflow_mul-value
overflow_mul-value c =
    let more = tens_more c.args.number c.loop-i._i c.loop-i.value c.loop-i.invariant in
    let below = tens_within c.args.number c.loop-i._i c.args.zeros 10000000000000000000 c.loop-i-test.true c.requires in
    omega arith

pub loop-i-preserved : goal.loop-i-preserved
loop-i-preserved c = tens_more c.args.number c.loop-i._i c.loop-i.value c.loop-i.invariant

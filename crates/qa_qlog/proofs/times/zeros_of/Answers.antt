use Rattle.std.proofs.Common.{arith}
use Rattle.std.proofs.lemmas.List.Sums.{prefix_len-le-length}
use Rattle.qa_qlog.specs.Times.{is_zero}
use Rattle.qa_qlog.proofs.Digits.{zeros_on, zeros_here}
use Rattle.qa_qlog.proofs.times.zeros_of.Goals as goal

pub overflow_add-result : goal.overflow_add-result
overflow_add-result c = omega (arith, prefix_len-le-length is_zero c.args.whole.now, prefix_len-le-length is_zero c.args.fraction.now)

pub returns-then-count-whole : goal.returns-then-count-whole
returns-then-count-whole c =
    let rest = zeros_on is_zero c.args.whole.now c.args.fraction.now (omega arith) in
    omega arith

pub returns-else-count-whole : goal.returns-else-count-whole
returns-else-count-whole c =
    let rest = zeros_here is_zero c.args.whole.now c.args.fraction.now (λ e. omega arith) in
    omega arith

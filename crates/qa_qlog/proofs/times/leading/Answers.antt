use Rattle.std.proofs.Common.{◌++◌, arith, length-append}
use Rattle.std.proofs.lemmas.List.Sums.{prefix_len-le-length}
use Rattle.qa_qlog.specs.Times.{is_zero}
use Rattle.qa_qlog.proofs.times.leading.Goals as goal

pub overflow_add-zeros_of : goal.overflow_add-zeros_of
overflow_add-zeros_of c =
    omega (arith, prefix_len-le-length is_zero (c.args.whole.now ++ c.args.fraction.now), length-append c.args.whole.now c.args.fraction.now)

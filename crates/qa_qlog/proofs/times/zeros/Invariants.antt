use Rattle.std.proofs.Common.{◌≡◌, ◌+◌, drop}
use Rattle.std.specs.List.{prefix_len}
use Rattle.qa_qlog.specs.Times.{is_zero}
use Rattle.qa_qlog.proofs.times.zeros.Given as goal

abbrev pub invariant-loop-i : goal.invariant-loop-i
invariant-loop-i l = prefix_len is_zero l.digits ≡ l.i + prefix_len is_zero (drop l.i l.digits)

use Rattle.std.proofs.Common.{◌≡◌, drop}
use Rattle.qa_qlog.specs.Kinds.{after_white}
use Rattle.qa_qlog.proofs.kinds.after_white.Given as goal

abbrev pub invariant-loop-i : goal.invariant-loop-i
invariant-loop-i l = after_white (drop l.i l.bytes) ≡ after_white l.fn.bytes

use Rattle.std.proofs.Common.{◌≡◌, drop}
use Rattle.qa_qlog.specs.Secrets.{occurs}
use Rattle.qa_qlog.proofs.secrets.occurs.Given as goal

abbrev pub invariant-loop-i : goal.invariant-loop-i
invariant-loop-i l = occurs l.part (drop l.i l.name) ≡ occurs l.part l.fn.name

use Rattle.std.proofs.Common.{◌≡◌, drop}
use Rattle.qa_qlog.specs.Outer.{next}
use Rattle.qa_logs.specs.Choosing.{first_unsaid}
use Rattle.qa_logs.proofs.choosing.first_unsaid.Given as goal

abbrev pub invariant-loop-role : goal.invariant-loop-role
invariant-loop-role l =
    first_unsaid (next l.trace) (drop l.role-index l.roles) ≡ first_unsaid 1 l.roles

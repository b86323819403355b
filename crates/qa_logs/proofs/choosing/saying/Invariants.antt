use Rattle.std.proofs.Common.{◌≡◌, ◌++◌, drop}
use Rattle.qa_qlog.specs.Outer.{next}
use Rattle.qa_logs.specs.Choosing.{saying}
use Rattle.qa_logs.proofs.choosing.saying.Given as goal

abbrev pub invariant-loop-role : goal.invariant-loop-role
invariant-loop-role l =
    l.fits.items ++ saying (next l.trace) l.asked (drop l.role-index l.roles)
    ≡ saying 1 l.asked l.roles

-- What was told of the trace of a log is what is told of the log.
use Rattle.std.proofs.Common.{ℕ, List, Result, refl}
use Rattle.qa_arguments.specs.why.Asked.{Wanted}
use Rattle.qa_check.specs.declared.auditing.AuditFault.{AuditFault}
use Rattle.qa_check.specs.declared.auditing.Outcome.{Outcome}
use Rattle.qa_why_command.specs.Ending.{Ended}
use Rattle.qa_why_command.specs.Logs.{EndsLog, TellsTraceOf}
use Rattle.qa_why_command.specs.Streams.{Input, Stream, streams}
use Rattle.qa_why_command.specs.Telling.{TellsRead}

pub traced : (w : Wanted) (name : List ℕ) (ended : Ended) (input trace trace' : Input) (out out' err err' err'' : Stream) (result : Result Outcome AuditFault)
    → TellsRead w.told w name result (streams trace out err) (streams trace' out' err') → EndsLog result ended
    → TellsTraceOf w name ended (streams input out err) (streams input out' err'')
traced w name ended input trace trace' out out' err err' err'' result tells ends =
    (trace, streams trace' out' err', result, tells, ends, refl, refl)

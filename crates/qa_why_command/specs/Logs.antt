-- What is told of a log.
use Rattle.std.specs.Prelude.{◌≡◌, ◌⊎◌, ℕ, false, true, List, Result, Ok, Err, is_err}
use Rattle.qa_arguments.specs.why.Asked.{Wanted}
use Rattle.qa_check.specs.declared.auditing.AuditFault.{AuditFault}
use Rattle.qa_check.specs.declared.auditing.AuditFault.TheVariants as faults
use Rattle.qa_check.specs.declared.auditing.Outcome.{Outcome}
use Rattle.qa_why_command.specs.Ending.{Ended, stops}
use Rattle.qa_why_command.specs.Streams.{Input, Streams}
use Rattle.qa_why_command.specs.Telling.{TellsRead}
use Rattle.qa_why_command.specs.declared.ending.Failure.TheVariants.{Audit}

-- there is no verdict, and files behind are read
abbrev pub IsNoVerdict : Ended → Type 0
IsNoVerdict ended = (is_err ended ≡ true) × (stops ended ≡ false)

-- how a log ended by what came of its trace: if that could not be read to its end there is no
-- verdict, and it may be that there is no memory for what is said of the log
abbrev pub EndsLog : Result Outcome AuditFault → Ended → Type 0
EndsLog (Ok outcome) ended = (ended ≡ Ok outcome) ⊎ (ended ≡ Err (Audit faults.OutOfMemory))
EndsLog (Err faults.Read) ended = IsNoVerdict ended
EndsLog (Err faults.Write) ended = ended ≡ Err (Audit faults.Write)
EndsLog (Err faults.OutOfMemory) ended = ended ≡ Err (Audit faults.OutOfMemory)

-- the trace of a log was read, as far as that counts, and told; and behind it on the error stream
-- what is said of the log
abbrev pub TellsTraceOf : Wanted → List ℕ → Ended → Streams → Streams → Type 0
TellsTraceOf w name ended before after =
    (trace : Input) × (middle : Streams) × (result : Result Outcome AuditFault)
    × TellsRead w.told w name result (record before { input = trace }) middle
    × EndsLog result ended × (after.output ≡ middle.output) × (after.input ≡ before.input)

-- or it gives no trace, and nothing was told but on the error stream
abbrev pub TellsLog : Wanted → List ℕ → Ended → Streams → Streams → Type 0
TellsLog w name ended before after =
    TellsTraceOf w name ended before after
    ⊎ (IsNoVerdict ended × (after.output ≡ before.output) × (after.input ≡ before.input))

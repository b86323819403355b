-- How a trace ends, and the line of its failure.
use Rattle.std.specs.Prelude.{◌≡◌, ℕ, Bool, true, false, List, [], codes, Result, Ok, Err}
use Rattle.qa_check.specs.declared.auditing.AuditFault.{AuditFault}
use Rattle.qa_check.specs.declared.auditing.AuditFault.TheVariants as faults
use Rattle.qa_check.specs.declared.auditing.Outcome.{Outcome}
use Rattle.qa_check.specs.declared.auditing.Outcome.TheVariants.{Accepted, Refused, Unreadable}
use Rattle.qa_commands.specs.Checking.{Then}
use Rattle.qa_commands.specs.Names.{line_with}
use Rattle.qa_why_command.specs.Streams.{Stream, WasTold}
use Rattle.qa_why_command.specs.declared.ending.Failure.{Failure}
use Rattle.qa_why_command.specs.declared.ending.Failure.TheVariants.{Audit, Log, Open}

-- a verdict, or why there is none
abbrev pub Ended : Type 0
Ended = Result Outcome Failure

abbrev pub ended_by : Result Outcome AuditFault → Ended
ended_by (Ok outcome) = Ok outcome
ended_by (Err fault) = Err (Audit fault)

-- the exit status of one trace
abbrev pub status_of : Ended → ℕ
status_of (Ok Accepted) = 0
status_of (Ok Refused) = 1
status_of (Ok Unreadable) = 2
status_of (Err Open) = 3
status_of (Err (Audit fault)) = 3
status_of (Err Log) = 2

-- a failed write ends the program
abbrev pub stops : Ended → Bool
stops (Ok outcome) = false
stops (Err Open) = false
stops (Err (Audit faults.Read)) = false
stops (Err (Audit faults.Write)) = true
stops (Err (Audit faults.OutOfMemory)) = false
stops (Err Log) = false

-- what the line of a failure begins with; that of a log was told before
abbrev pub message_of : Failure → List ℕ
message_of Open = codes "qaudit-why: cannot open "
message_of (Audit faults.Read) = codes "qaudit-why: read fault: "
message_of (Audit faults.Write) = codes "qaudit-why: write fault: "
message_of (Audit faults.OutOfMemory) = codes "qaudit-why: out of memory: "
message_of Log = []

-- the line of a failure, with what failed
abbrev pub failure_line : Failure → List ℕ → List ℕ
failure_line failure name = line_with (message_of failure) name

-- whether the line of a failure is yet to be told
abbrev pub has_line : Failure → Bool
has_line Open = true
has_line (Audit fault) = true
has_line Log = false

-- the line of a failure was told on this stream, if it was not before
abbrev pub TellsLine : Failure → List ℕ → Stream → Stream → Type 0
TellsLine failure name old new =
    Then (has_line failure) (WasTold old new (failure_line failure name)) (new ≡ old)

-- where it failed, the line of that failure was told on this stream, and else nothing
abbrev pub TellsFailure : {A : Type 0} → Result A Failure → List ℕ → Stream → Stream → Type 0
TellsFailure (Ok a) name old new = new ≡ old
TellsFailure (Err failure) name old new = TellsLine failure name old new

-- What a failure is of.
use Rattle.std.specs.Prelude.{Bool, true, false, Result, Ok, Err}
use Rattle.qa_log_lines.specs.declared.failure.LogFailure.{LogFailure}
use Rattle.qa_log_lines.specs.declared.failure.LogFailure.TheVariants as logs
use Rattle.qa_log_command.specs.declared.failure.Failure.{Failure}
use Rattle.qa_log_command.specs.declared.failure.Failure.TheVariants.{Log, Write}
use Rattle.qa_log_command.specs.declared.ending.Ending.{Ending}
use Rattle.qa_log_command.specs.declared.ending.Ending.TheVariants as endings

-- a write failed
abbrev pub is_write : Failure → Bool
is_write (Log interruption) = false
is_write (Write e) = true

-- it ended by a write that failed
abbrev pub fails_to_write : {A : Type 0} → Result A Failure → Bool
fails_to_write (Ok a) = false
fails_to_write (Err failure) = is_write failure

-- how the program ends by what a log gives no line for: only a log that gives no trace has a
-- status of its own
abbrev pub ending_of_log : LogFailure → Ending
ending_of_log (logs.Open e) = endings.Failed
ending_of_log (logs.Read e) = endings.Failed
ending_of_log logs.TooLong = endings.Failed
ending_of_log (logs.Log fault) = endings.NoTrace
ending_of_log logs.OutOfMemory = endings.Failed

-- how the program ends by a failure
abbrev pub ending_of : Failure → Ending
ending_of (Log interruption) = ending_of_log interruption.failure
ending_of (Write e) = endings.Failed

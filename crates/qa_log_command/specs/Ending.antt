-- How the program ends.
use Rattle.std.specs.Prelude.{ℕ}
use Rattle.qa_log_command.specs.declared.ending.Ending.{Ending}
use Rattle.qa_log_command.specs.declared.ending.Ending.TheVariants.{Written, NoTrace}
use Rattle.qa_log_command.specs.declared.ending.Ending.TheVariants.{Failed, Refused}

-- the exit status
abbrev pub status_of : Ending → ℕ
status_of Written = 0
status_of NoTrace = 2
status_of Failed = 3
status_of Refused = 64

-- How the program ends.
use Rattle.std.specs.Prelude.{◌≡◌, ◌++◌, ℕ, Bool, List, [], ◌∷◌, codes, map, max, Option, Result}
use Rattle.std.specs.Prelude.{Ok, Err}
use Rattle.qa_check.specs.declared.auditing.Outcome.{Outcome}
use Rattle.qa_check.specs.declared.auditing.Outcome.TheVariants.{Accepted, Refused, Unreadable}
use Rattle.qa_check.specs.declared.auditing.AuditFault.{AuditFault}
use Rattle.qa_check.specs.declared.auditing.AuditFault.TheVariants as faults
use Rattle.qa_check.specs.names.Names.{shown_name}
use Rattle.qa_commands.specs.Writes.{Writes}
use Rattle.qa_commands.specs.declared.ending.Failure.{Failure}
use Rattle.qa_commands.specs.declared.ending.Failure.TheVariants.{Arguments, Open, Read, Write}
use Rattle.qa_commands.specs.declared.ending.Failure.TheVariants.{OutOfMemory}
use Rattle.qa_commands.specs.declared.ending.Origin.{Origin}
use Rattle.qa_commands.specs.declared.ending.Origin.TheVariants.{StandardInput, File}

-- the failure of an audit that read from this origin
abbrev pub failure_of : Origin → AuditFault → Failure
failure_of origin faults.Read = Read origin
failure_of origin faults.Write = Write
failure_of origin faults.OutOfMemory = OutOfMemory

-- the exit status of one audit
abbrev pub status_of : Result Outcome Failure → ℕ
status_of (Ok Accepted) = 0
status_of (Ok Refused) = 1
status_of (Ok Unreadable) = 2
status_of (Err Arguments) = 64
status_of (Err (Open name)) = 3
status_of (Err (Read origin)) = 3
status_of (Err Write) = 3
status_of (Err OutOfMemory) = 3

-- the same by what an audit itself returns
abbrev pub audit_status : Result Outcome AuditFault → ℕ
audit_status (Ok outcome) = status_of (Ok outcome)
audit_status (Err fault) = status_of (Err (failure_of StandardInput fault))

-- what a trace is read from, as a message names it
abbrev pub origin_text : Origin → List ℕ
origin_text StandardInput = codes "standard input"
origin_text (File name) = shown_name name.now

-- the line on standard error, without its LF
abbrev pub message_of : Failure → List ℕ
message_of Arguments = codes "usage: qaudit check [FILE...] or qaudit explain [FILE]"
message_of (Open name) = codes "qaudit: cannot open " ++ shown_name name.now
message_of (Read origin) = codes "qaudit: read fault: " ++ origin_text origin
message_of Write = codes "qaudit: write fault"
message_of OutOfMemory = codes "qaudit: out of memory"

-- what is told of an audit that ended so: nothing, or the line of its failure
abbrev pub line_told : Result Outcome Failure → List ℕ
line_told (Ok outcome) = []
line_told (Err failure) = message_of failure ++ codes "\n"

abbrev pub greatest : List ℕ → ℕ
greatest [] = 0
greatest (status ∷ statuses) = max status (greatest statuses)

-- on standard error stand the lines of these failures, in order: each in full, or a beginning of it
-- where standard error failed, which is counted
abbrev pub Tells : List (Result Outcome Failure) → Option (List ℕ) → Option (List ℕ) → ℕ → ℕ
    → Type 0
Tells [] old new count count' = (new ≡ old) × (count' ≡ count)
Tells (ended ∷ endings) old new count count' =
    (failed : Bool) × (middle : Option (List ℕ)) × (so_far : ℕ)
    × Writes failed old middle count so_far (line_told ended)
    × Tells endings middle new so_far count'

-- of audits that ended so, one after another, the exit status is the greatest, and their failures
-- are told on standard error
pub record Ends (endings : List (Result Outcome Failure)) (status : ℕ) (old new : Option (List ℕ))
    (count count' : ℕ) : Type 0 where
  pub status_is : status ≡ greatest (map status_of endings)
  pub told : Tells endings old new count count'

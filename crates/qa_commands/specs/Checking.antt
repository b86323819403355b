-- What `check` writes, and how it ends.
use Rattle.std.specs.Prelude.{◌≡◌, ◌⊎◌, ⊤, ℕ, Bool, true, false, List, [], ◌∷◌, codes, Option, Some}
use Rattle.std.specs.Prelude.{None, Result, Ok, Err}
use Rattle.std.specs.Borrow.{Bor}
use Rattle.std.specs.List.{list_any}
use Rattle.std.specs.Io.KnownBytes.{Appends}
use Rattle.qa_check.specs.Audit.{Reports, BeginsReport}
use Rattle.qa_check.specs.Writing.{Begins}
use Rattle.qa_check.specs.declared.auditing.AuditFault.{AuditFault}
use Rattle.qa_check.specs.declared.auditing.AuditFault.TheVariants as faults
use Rattle.qa_check.specs.declared.auditing.Outcome.{Outcome}
use Rattle.qa_commands.specs.Names.{line_with}
use Rattle.qa_commands.specs.declared.ending.Failure.{Failure}
use Rattle.qa_commands.specs.declared.ending.Failure.TheVariants.{Arguments, Open, Read, Write}
use Rattle.qa_commands.specs.declared.ending.Failure.TheVariants.{OutOfMemory}
use Rattle.qa_commands.specs.declared.ending.Origin.{Origin}
use Rattle.qa_commands.specs.declared.ending.Origin.TheVariants as origins

-- the line that stands before the report of one of several files
abbrev pub heading : List ℕ → List ℕ
heading name = line_with (codes "file ") name

-- this line was written, where there are several files
abbrev pub Headed : Bool → List ℕ → Option (List ℕ) → Option (List ℕ) → Type 0
Headed true name old new = Appends old new (heading name)
Headed false name old new = new ≡ old

-- these are the bytes that an origin tells, where it tells them
abbrev pub AreOf : Option (List ℕ) → List ℕ → Type 0
AreOf None bytes = ⊤
AreOf (Some told) bytes = bytes ≡ told

-- what an audit of this origin wrote that ended so: the report of the bytes that the origin tells,
-- or else of some; its beginning; or nothing
abbrev pub Audited : Option (List ℕ) → Origin → Result Outcome Failure → Option (List ℕ)
    → Option (List ℕ) → Type 0
Audited left origin (Ok outcome) old new =
    (bytes : List ℕ) × AreOf left bytes × Reports old new outcome bytes
Audited left origin (Err Arguments) old new = ⊥
Audited left origin (Err (Open name)) old new = ⊥
Audited left origin (Err (Read failed)) old new = (failed ≡ origin) × (new ≡ old)
Audited left origin (Err Write) old new =
    (bytes : List ℕ) × AreOf left bytes × BeginsReport old new bytes
Audited left origin (Err OutOfMemory) old new = new ≡ old

-- the line of one of several files was written, and the report of some bytes
abbrev pub ReportsFile : List ℕ → Outcome → Option (List ℕ) → Option (List ℕ) → Type 0
ReportsFile name outcome old new =
    (middle : Option (List ℕ)) × Headed true name old middle
    × (bytes : List ℕ) × Reports middle new outcome bytes

-- the failure of one of several files of which there is no report on a page: there a failed write
-- is want of memory
abbrev pub unreported_by : Origin → AuditFault → Failure
unreported_by origin faults.Read = Read origin
unreported_by origin faults.Write = OutOfMemory
unreported_by origin faults.OutOfMemory = OutOfMemory

-- what was written where no audit of a file began
abbrev pub Unaudited : Bor (List ℕ) → Result Outcome Failure → Option (List ℕ) → Option (List ℕ)
    → Type 0
Unaudited name (Ok outcome) old new = ⊥
Unaudited name (Err Arguments) old new = ⊥
Unaudited name (Err (Open unopened)) old new = (unopened ≡ name) × (new ≡ old)
Unaudited name (Err (Read origin)) old new = ⊥
Unaudited name (Err Write) old new = Begins old new (heading name.now)
Unaudited name (Err OutOfMemory) old new = ⊥

-- what was written for one file, one of several or not, which ended so
abbrev pub Checks : Bool → Bor (List ℕ) → Result Outcome Failure → Option (List ℕ) → Option (List ℕ)
    → Type 0
Checks several name ended old new =
    Unaudited name ended old new
    ⊎ ((middle : Option (List ℕ)) × Headed several name.now old middle
    × Audited None (origins.File name) ended middle new)

-- whether no file behind is audited: a failed write ends the program
abbrev pub stops : Result Outcome Failure → Bool
stops (Ok outcome) = false
stops (Err Arguments) = false
stops (Err (Open name)) = false
stops (Err (Read origin)) = false
stops (Err Write) = true
stops (Err OutOfMemory) = false

-- whether a read failed
abbrev pub is_unread : Result Outcome Failure → Bool
is_unread (Ok outcome) = false
is_unread (Err Arguments) = false
is_unread (Err (Open name)) = false
is_unread (Err (Read origin)) = true
is_unread (Err Write) = false
is_unread (Err OutOfMemory) = false

-- whether a failed write ended one of these
abbrev pub any_stops : List (Result Outcome Failure) → Bool
any_stops = list_any stops

-- the first of two where it stops, and else the second
abbrev pub Then : Bool → Type 0 → Type 0 → Type 0
Then true stopped goes_on = stopped
Then false stopped goes_on = goes_on

-- what was written for these files, in order, which ended so, up to one that stops
abbrev pub ChecksAll : Bool → List (Bor (List ℕ)) → List (Result Outcome Failure) → Option (List ℕ)
    → Option (List ℕ) → Type 0
ChecksAll several [] [] old new = new ≡ old
ChecksAll several [] (ended ∷ endings) old new = ⊥
ChecksAll several (name ∷ names) [] old new = ⊥
ChecksAll several (name ∷ names) (ended ∷ endings) old new =
    (middle : Option (List ℕ)) × Checks several name ended old middle
    × Then (stops ended) ((endings ≡ []) × (new ≡ middle))
    (ChecksAll several names endings middle new)

-- What `explain` writes.
use Rattle.std.specs.Prelude.{◌≡◌, ◌⊎◌, ℕ, List, Option, Some, None, Result, Ok, Err}
use Rattle.std.specs.Borrow.{Bor}
use Rattle.std.specs.Io.KnownBytes.{Appends}
use Rattle.qa_format.specs.verdicts.Verdict.{strict}
use Rattle.qa_format.specs.format.Reading.{reading}
use Rattle.qa_format.specs.verdicts.Explain as explanation
use Rattle.qa_check.specs.Writing as writing
use Rattle.qa_check.specs.Writing.{Begins, told_ended}
use Rattle.qa_check.specs.declared.auditing.Outcome.{Outcome}
use Rattle.qa_commands.specs.Checking.{AreOf}
use Rattle.qa_commands.specs.declared.ending.Failure.{Failure}
use Rattle.qa_commands.specs.declared.ending.Failure.TheVariants.{Arguments, Open, Read, Write}
use Rattle.qa_commands.specs.declared.ending.Failure.TheVariants.{OutOfMemory}
use Rattle.qa_commands.specs.declared.ending.Origin.{Origin}
use Rattle.qa_commands.specs.declared.ending.Origin.TheVariants as origins

-- what an explanation of this origin wrote that ended so: all that explains the bytes that the
-- origin tells, or else some; after a failed read the rows of the lines that an LF ended in what
-- was read; or a beginning of the rows, or of all
abbrev pub Explained : Option (List ℕ) → Origin → Result Outcome Failure → Option (List ℕ)
    → Option (List ℕ) → Type 0
Explained left origin (Ok outcome) old new =
    (bytes : List ℕ) × AreOf left bytes × writing.Explains old new outcome bytes
Explained left origin (Err Arguments) old new = ⊥
Explained left origin (Err (Open name)) old new = ⊥
Explained left origin (Err (Read failed)) old new =
    (failed ≡ origin) × ((bytes : List ℕ)
    × Appends old new (told_ended (strict reading) explanation.row_said bytes))
Explained left origin (Err Write) old new =
    (bytes : List ℕ) × AreOf left bytes
    × Begins old new (explanation.explain (strict reading) bytes)
Explained left origin (Err OutOfMemory) old new =
    (bytes : List ℕ) × Begins old new (explanation.rows (strict reading) bytes)

-- the same of a file, which may not open
abbrev pub ExplainsFile : Bor (List ℕ) → Result Outcome Failure → Option (List ℕ) → Option (List ℕ)
    → Type 0
ExplainsFile name ended old new =
    ((ended ≡ Err (Open name)) × (new ≡ old)) ⊎ Explained None (origins.File name) ended old new

-- and of a file, or of standard input where none is named
abbrev pub Explains : Option (List ℕ) → Option (Bor (List ℕ)) → Result Outcome Failure
    → Option (List ℕ) → Option (List ℕ) → Type 0
Explains left None ended old new = Explained left origins.StandardInput ended old new
Explains left (Some name) ended old new = ExplainsFile name ended old new

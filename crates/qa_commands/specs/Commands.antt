-- What arguments make the program write.
use Rattle.std.specs.Prelude.{◌≡◌, ◌⊎◌, ℕ, Bool, true, false, List, [], ◌∷◌, length, nat_lt, Option}
use Rattle.std.specs.Prelude.{Some, None, Result, Err}
use Rattle.std.specs.Borrow.{Bor}
use Rattle.qa_arguments.specs.Arguments.{asked, request}
use Rattle.qa_arguments.specs.declared.fault.ArgumentsFault.{ArgumentsFault}
use Rattle.qa_arguments.specs.declared.fault.ArgumentsFault.TheVariants as faults
use Rattle.qa_arguments.specs.declared.parsing.Subcommand.{Subcommand}
use Rattle.qa_arguments.specs.declared.parsing.Subcommand.TheVariants.{Check, Explain}
use Rattle.qa_check.specs.declared.auditing.Outcome.{Outcome}
use Rattle.qa_commands.specs.Checking.{Audited, ChecksAll}
use Rattle.qa_commands.specs.Explaining.{Explains}
use Rattle.qa_commands.specs.declared.ending.Failure.{Failure}
use Rattle.qa_commands.specs.declared.ending.Failure.TheVariants.{Arguments, OutOfMemory}
use Rattle.qa_commands.specs.declared.ending.Origin.TheVariants.{StandardInput}

-- what `check` writes for these files, or for standard input where there is none, where the audits
-- end so
abbrev pub ChecksFiles : Option (List ℕ) → List (Bor (List ℕ)) → List (Result Outcome Failure)
    → Option (List ℕ) → Option (List ℕ) → Type 0
ChecksFiles left [] endings old new =
    (ended : Result Outcome Failure) × (endings ≡ ended ∷ [])
    × Audited left StandardInput ended old new
ChecksFiles left (name ∷ names) endings old new =
    ChecksAll (nat_lt 1 (length (name ∷ names))) (name ∷ names) endings old new

-- what a subcommand writes
abbrev pub Performs : Option (List ℕ) → Subcommand → List (Result Outcome Failure) → Option (List ℕ)
    → Option (List ℕ) → Type 0
Performs left (Check files) endings old new = ChecksFiles left files.items endings old new
Performs left (Explain file) endings old new =
    (ended : Result Outcome Failure) × (endings ≡ ended ∷ []) × Explains left file ended old new

-- the failure of arguments that were refused
abbrev pub refusal_of : ArgumentsFault → Failure
refusal_of faults.Refused = Arguments
refusal_of faults.OutOfMemory = OutOfMemory

-- what these arguments make the program write: what they ask for; or nothing, where they ask for
-- nothing, or it is out of memory
abbrev pub Commands : List (List ℕ) → Option (List ℕ) → List (Result Outcome Failure)
    → Option (List ℕ) → Option (List ℕ) → Type 0
Commands arguments left endings old new =
    ((subcommand : Subcommand) × (asked arguments ≡ Some (request subcommand))
    × Performs left subcommand endings old new)
    ⊎ ((fault : ArgumentsFault)
    × ((fault ≡ faults.OutOfMemory) ⊎ ((fault ≡ faults.Refused) × (asked arguments ≡ None)))
    × (endings ≡ Err (refusal_of fault) ∷ []) × (new ≡ old))

-- whether it is standard input that arguments ask for: a subcommand with no file
abbrev pub asks_for_input : Option (List ℕ × List (List ℕ)) → Bool
asks_for_input None = false
asks_for_input (Some (command, [])) = true
asks_for_input (Some (command, name ∷ names)) = false

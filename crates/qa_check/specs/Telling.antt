-- What a visitor wrote that tells of each line.
use Rattle.std.specs.Prelude.{◌≡◌, ◌++◌, true, ℕ, List, Option}
use Rattle.qa_format.specs.verdicts.Explain.{Telling, told_of}
use Rattle.qa_format.specs.verdicts.Verdict.{Judging}
use Rattle.qa_check.specs.declared.auditing.AuditFault.{AuditFault}
use Rattle.qa_check.specs.declared.auditing.AuditFault.TheVariants.{Read, Write, OutOfMemory}
use Rattle.qa_check.specs.declared.walking.WalkFault.{WalkFault}
use Rattle.qa_check.specs.declared.walking.WalkFault.TheVariants as faults
use Rattle.qa_check.specs.Failures.{failures_after}
use Rattle.qa_check.specs.Writing.{Begins, WritesBut}

-- all was made that is told of the lines, and written but for what waits; the writer did not fail
abbrev pub Tells : Telling → Judging → ℕ → ℕ → Option (List ℕ) → Option (List ℕ) → List ℕ
    → List (List ℕ) → Type 0
Tells tell judging failures failures' held held' waiting ls =
    (failures' ≡ failures) × WritesBut held held' waiting (told_of tell judging ls)

-- a text was begun, and what waits is to follow in it
abbrev pub WaitsIn : Option (List ℕ) → Option (List ℕ) → List ℕ → List ℕ → Type 0
WaitsIn held held' waiting text =
    (made : List ℕ) × (rest : List ℕ) × (text ≡ made ++ rest) × WritesBut held held' waiting made

-- it was begun: out of memory, what waits is to follow; or the writer failed
abbrev pub FailsTelling : Telling → Judging → ℕ → ℕ → Option (List ℕ) → Option (List ℕ) → List ℕ
    → List (List ℕ) → AuditFault → Type 0
FailsTelling tell judging failures failures' held held' waiting ls Read = ⊥
FailsTelling tell judging failures failures' held held' waiting ls Write =
    (failures' ≡ failures_after true failures) × Begins held held' (told_of tell judging ls)
FailsTelling tell judging failures failures' held held' waiting ls OutOfMemory =
    (failures' ≡ failures) × WaitsIn held held' waiting (told_of tell judging ls)

-- the fault of an audit whose walk has this, and whose visitor fails by memory alone
abbrev pub memory_or_read_of : {F : Type 0} → WalkFault F → AuditFault
memory_or_read_of faults.Read = Read
memory_or_read_of faults.OutOfMemory = OutOfMemory
memory_or_read_of (faults.Visitor f) = OutOfMemory

-- What an audit reads, writes and tells.
use Rattle.std.specs.Prelude.{◌≡◌, ◌⊎◌, ◌≤◌, ◌++◌, ℕ, Bool, true, false, List, length, take, Option}
use Rattle.std.specs.Prelude.{Result, Err}
use Rattle.std.specs.Io.KnownBytes.{Appends, Consumes, IsAtEnd}
use Rattle.qa_format.specs.declared.verdict.Verdict.{Verdict}
use Rattle.qa_format.specs.declared.verdict.Verdict.TheVariants as verdicts
use Rattle.qa_format.specs.verdicts.Report.{report}
use Rattle.qa_format.specs.format.Reading.{reading}
use Rattle.qa_format.specs.verdicts.Verdict.{Judging, strict, verdict, IsFixed}
use Rattle.qa_check.specs.declared.auditing.AuditFault.{AuditFault}
use Rattle.qa_check.specs.declared.auditing.AuditFault.TheVariants as faults
use Rattle.qa_check.specs.declared.auditing.Outcome.{Outcome}
use Rattle.qa_check.specs.declared.auditing.Outcome.TheVariants.{Accepted, Refused, Unreadable}
use Rattle.qa_check.specs.Failures.{failures_after}

-- the kind of a verdict
abbrev pub outcome_of : Verdict → Outcome
outcome_of (verdicts.Accepted t) = Accepted
outcome_of (verdicts.Refused n r t) = Refused
outcome_of (verdicts.Unreadable n f t) = Unreadable

-- ---- reading

-- the verdict was not fixed by the bytes without those of the last read, 4,096 at most: no read was
-- made that did not count
abbrev pub IsReadNoFurtherBy : Judging → ℕ → List ℕ → Type 0
IsReadNoFurtherBy judging last bytes =
    (front : List ℕ) × (piece : List ℕ) × (bytes ≡ front ++ piece) × (length piece ≡ last)
    × (last ≤ 4096) × (IsFixed judging front → ⊥)

-- from a reader that had old left and has new left, some bytes were read, so many of them by the
-- last read, and none that did not count
abbrev pub ReadsBy : Judging → Option (List ℕ) → Option (List ℕ) → ℕ → Type 0
ReadsBy judging old new last =
    (bytes : List ℕ) × Consumes old new bytes × IsReadNoFurtherBy judging last bytes

-- these bytes were read, which are all that counts
abbrev pub ReadsEnoughBy : Judging → Option (List ℕ) → Option (List ℕ) → ℕ → List ℕ → Type 0
ReadsEnoughBy judging old new last bytes =
    Consumes old new bytes × (IsAtEnd new ⊎ IsFixed judging bytes)
    × IsReadNoFurtherBy judging last bytes

-- the same where a trace ends at an event that breaks a rule
abbrev pub Reads : Option (List ℕ) → Option (List ℕ) → ℕ → Type 0
Reads old new last = ReadsBy (strict reading) old new last

abbrev pub ReadsEnough : Option (List ℕ) → Option (List ℕ) → ℕ → List ℕ → Type 0
ReadsEnough old new last bytes = ReadsEnoughBy (strict reading) old new last bytes

-- ---- writing

-- the report of the bytes was written, and the kind of their verdict is returned
abbrev pub Reports : Option (List ℕ) → Option (List ℕ) → Outcome → List ℕ → Type 0
Reports held held' outcome bytes =
    Appends held held' (report (verdict (strict reading) bytes))
    × (outcome ≡ outcome_of (verdict (strict reading) bytes))

-- the beginning of the report of the bytes was written
abbrev pub BeginsReport : Option (List ℕ) → Option (List ℕ) → List ℕ → Type 0
BeginsReport held held' bytes =
    (n : ℕ) × Appends held held' (take n (report (verdict (strict reading) bytes)))

-- ---- faults

-- whether the result is that the reader failed
abbrev pub is_read_fault : {A : Type 0} → Result A AuditFault → Bool
is_read_fault (Err faults.Read) = true
is_read_fault _ = false

-- whether it is that the writer failed
abbrev pub is_write_fault : {A : Type 0} → Result A AuditFault → Bool
is_write_fault (Err faults.Write) = true
is_write_fault _ = false

-- What an explanation reads, writes and tells.
use Rattle.std.specs.Prelude.{◌≡◌, ◌⊎◌, ◌++◌, ℕ, List, Option}
use Rattle.std.specs.Io.KnownBytes.{Appends, Consumes, IsAtEnd}
use Rattle.qa_format.specs.format.Lines.{ended_lines}
use Rattle.qa_format.specs.format.Reading.{reading}
use Rattle.qa_format.specs.verdicts.Explain.{Telling, told_of, told, row_said, explain}
use Rattle.qa_format.specs.verdicts.Verdict.{Judging, strict, verdict, IsFixed}
use Rattle.qa_format.specs.declared.verdict.Verdict.{Verdict}
use Rattle.qa_check.specs.declared.auditing.Outcome.{Outcome}
use Rattle.qa_check.specs.Audit.{outcome_of, IsReadNoFurtherBy, ReadsEnoughBy}

-- ---- what was written

-- a beginning of the text was written
abbrev pub Begins : Option (List ℕ) → Option (List ℕ) → List ℕ → Type 0
Begins held held' text =
    (front : List ℕ) × (rest : List ℕ) × (text ≡ front ++ rest) × Appends held held' front

-- all of it was, but for this rest
abbrev pub WritesBut : Option (List ℕ) → Option (List ℕ) → List ℕ → List ℕ → Type 0
WritesBut held held' rest text =
    (front : List ℕ) × (text ≡ front ++ rest) × Appends held held' front

-- what explains the bytes was written, and the kind of their verdict is returned
abbrev pub Explains : Option (List ℕ) → Option (List ℕ) → Outcome → List ℕ → Type 0
Explains held held' outcome bytes =
    Appends held held' (explain (strict reading) bytes)
    × (outcome ≡ outcome_of (verdict (strict reading) bytes))

-- what is told of the lines that an LF ends in the bytes
abbrev pub told_ended : Judging → Telling → List ℕ → List ℕ
told_ended judging tell bytes = told_of tell judging (ended_lines bytes)

-- ---- what was read, and written of it

-- these bytes were read, which do not fix the verdict, and all was written that is told of the
-- lines that an LF ends in them
abbrev pub ShowsToldRead : Judging → Telling → Option (List ℕ) → Option (List ℕ) → Option (List ℕ)
    → Option (List ℕ) → Type 0
ShowsToldRead judging tell old new held held' =
    (bytes : List ℕ) × Consumes old new bytes × (IsFixed judging bytes → ⊥)
    × Appends held held' (told_ended judging tell bytes)

-- the same of their rows
abbrev pub ShowsRead : Option (List ℕ) → Option (List ℕ) → Option (List ℕ) → Option (List ℕ)
    → Type 0
ShowsRead old new held held' = ShowsToldRead (strict reading) row_said old new held held'

-- of the bytes that were read what is told of the lines that an LF ends was begun; or this text,
-- where those bytes are all that counts
abbrev pub BeginsToldRead : Judging → Telling → Option (List ℕ) → Option (List ℕ) → ℕ
    → Option (List ℕ) → Option (List ℕ) → (List ℕ → List ℕ) → Type 0
BeginsToldRead judging tell old new last held held' text =
    (bytes : List ℕ) × Consumes old new bytes × IsReadNoFurtherBy judging last bytes
    × (Begins held held' (told_ended judging tell bytes)
    ⊎ ((IsAtEnd new ⊎ IsFixed judging bytes) × Begins held held' (text bytes)))

-- the same of their rows
abbrev pub BeginsRead : Option (List ℕ) → Option (List ℕ) → ℕ → Option (List ℕ) → Option (List ℕ)
    → (List ℕ → List ℕ) → Type 0
BeginsRead old new last held held' text =
    BeginsToldRead (strict reading) row_said old new last held held' text

-- these bytes were read, which are all that counts, this is their verdict, and all was written that
-- is told of them
abbrev pub JudgesShown : Judging → Telling → Option (List ℕ) → Option (List ℕ) → ℕ → Option (List ℕ)
    → Option (List ℕ) → Verdict → Type 0
JudgesShown judging tell old new last held held' v =
    (bytes : List ℕ) × ReadsEnoughBy judging old new last bytes × (v ≡ verdict judging bytes)
    × Appends held held' (told tell judging bytes)

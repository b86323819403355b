-- What a checker makes of a line that it reads.
use Rattle.std.specs.Prelude.{◌≡◌, ⊤, ℕ, true, List, None, Option, Result, Ok, Err}
use Rattle.qa_format.specs.declared.line.Line.{Line}
use Rattle.qa_format.specs.format.Reading.{reading}
use Rattle.qa_format.specs.format.Written.{line_fits}
use Rattle.qa_format.specs.verdicts.Verdict.{said}
use Rattle.qa_check.specs.declared.checker.Stop.{Stop}
use Rattle.qa_check.specs.declared.checker.Stop.TheVariants as stops
use Rattle.qa_read.specs.declared.fault.LineFault.{LineFault}
use Rattle.std.specs.Result.{result_ok}
use Rattle.qa_check.specs.Standing.{AddsBad, AddsGood, Held, Judges}

-- the line is good and says this
abbrev pub PushesGood : {L : Type 0} → Judges L → Held L → Held L → List ℕ → Line → Type 0
PushesGood judges old new l x =
    AddsGood judges old new l × (reading l ≡ Ok x) × (line_fits x ≡ true)

-- the line is not good, and this is what was read of it
abbrev pub PushesBad : {L : Type 0} → Judges L → Held L → Held L → List ℕ → Option Line → Type 0
PushesBad judges old new l read =
    AddsBad judges old new l × (new.ledger ≡ old.ledger)
    × (old.verdict ≡ None → read ≡ result_ok (said reading old.lines l))

-- it was read, and what it says is so
abbrev pub IsRead : (Line → Type 0) → Result Line LineFault → Type 0
IsRead IsSo (Ok x) = IsSo x
IsRead IsSo (Err f) = ⊥

-- what was pushed, by what was read of the line and how it was taken
abbrev pub Pushes : {L : Type 0} → Judges L → Held L → Held L → List ℕ → Result Line LineFault
    → Result ⊤ Stop → Type 0
Pushes judges old new l read (Ok taken) = IsRead (PushesGood judges old new l) read
Pushes judges old new l read (Err stops.Decided) = PushesBad judges old new l (result_ok read)
Pushes judges old new l read (Err stops.OutOfMemory) = new.failed ≡ true

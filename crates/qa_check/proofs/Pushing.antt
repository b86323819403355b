-- What a checker makes of a line that it reads.
use Rattle.std.proofs.Common.{◌≡◌, ◌∙◌, ◌<◌, ◌≤◌, ℕ, List, length, true, Result, Ok, Err, IfOk, IsOk, OnOk, refl, sym, ap}
use Rattle.std.specs.Prelude.{⊤}
use Rattle.std.specs.Result.{result_ok}
use Rattle.qa_base.specs.values.Limits.{max_lines}
use Rattle.qa_check.specs.Checking.{Pushes}
use Rattle.qa_check.specs.declared.checker.Stop.{Stop}
use Rattle.qa_check.specs.declared.checker.Stop.TheVariants as stops
use Rattle.qa_check.specs.Standing.{AddsBad, AddsGood, Held, Judges}
use Rattle.qa_format.proofs.verdicts.RunsAccepted.{read_as_said}
use Rattle.qa_format.specs.declared.line.Line.{Line}
use Rattle.qa_format.specs.format.Lines.{line_limit}
use Rattle.qa_format.specs.format.Reading.{reading}
use Rattle.qa_format.specs.format.Written.{line_fits}
use Rattle.qa_format.specs.verdicts.Verdict.{said}
use Rattle.qa_read.specs.declared.fault.LineFault.{LineFault}
use Rattle.qa_read.specs.declared.fault.LineFault.TheVariants as errors
use Rattle.qa_read.specs.Gives.{Gives}

-- what is said of a line is what was read of it
said_read : (n : ℕ) (l : List ℕ) (read : Result Line LineFault) → n < max_lines → length l ≤ line_limit → Gives (λ line. line) read (reading l) → (read ≡ Err errors.OutOfMemory → ⊥)
    → result_ok read ≡ result_ok (said reading n l)
said_read n l (Ok x) few short gives some = sym (ap result_ok (read_as_said reading n l few short ∙ gives))
said_read n l (Err (errors.Fault f)) few short gives some = sym (ap result_ok (read_as_said reading n l few short ∙ gives))
said_read n l (Err errors.OutOfMemory) few short gives some = absurd (some refl)

-- a line that was read
pub read_pushes : {L : Type 0} (judges : Judges L) (old new : Held L) (l : List ℕ) (taken : Result ⊤ Stop) (read : Result Line LineFault) → OnOk taken (IsOk read)
    → (read ≡ Err errors.OutOfMemory → taken ≡ Err stops.OutOfMemory) → old.lines < max_lines → length l ≤ line_limit → Gives (λ line. line) read (reading l) → IfOk read (λ line. line_fits line ≡ true)
    → OnOk taken (AddsGood judges old new l)
    → (taken ≡ Err stops.Decided → AddsBad judges old new l × (new.ledger ≡ old.ledger)) → (taken ≡ Err stops.OutOfMemory → new.failed ≡ true)
    → Pushes judges old new l read taken
read_pushes judges old new l (Ok t) (Ok x) ok memory few short gives fits good bad fails = (good, gives, fits)
read_pushes judges old new l (Ok t) (Err f) ok memory few short gives fits good bad fails = cc
read_pushes judges old new l (Err stops.Decided) read ok memory few short gives fits good bad fails =
    let adds = bad refl in
    (adds.0, adds.1, λ none. said_read old.lines l read few short gives (λ out. let no = memory out in cc))
read_pushes judges old new l (Err stops.OutOfMemory) read ok memory few short gives fits good bad fails = fails refl

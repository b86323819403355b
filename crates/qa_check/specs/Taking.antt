-- What a line makes of those that were taken.
use Rattle.std.specs.Prelude.{◌≡◌, ⊤, ℕ, Bool, true, false, List, None, Option, Some, Result, Ok}
use Rattle.std.specs.Prelude.{Err}
use Rattle.qa_format.specs.declared.line.Line.{Line}
use Rattle.qa_check.specs.declared.checker.Stop.{Stop}
use Rattle.qa_check.specs.declared.checker.Stop.TheVariants as stops
use Rattle.qa_check.specs.declared.taking.Halt.{Halt}
use Rattle.qa_check.specs.declared.taking.Halt.TheVariants as halts
use Rattle.qa_check.specs.declared.taking.Judged.{Judged}
use Rattle.qa_check.specs.declared.taking.Judged.TheVariants.{Good, Bad}
use Rattle.qa_check.specs.declared.taking.LastLine.{LastLine}
use Rattle.qa_check.specs.Standing.{AddsBad, Held, Judges}
use Rattle.qa_check.specs.Walking.{IsLine}

-- where lines are kept, this is handed out of one that was read so
abbrev pub IsHanded : Bool → (LastLine → Type 0) → Option LastLine → Type 0
IsHanded true Is (Some last) = Is last
IsHanded true Is None = ⊥
IsHanded false Is last = last ≡ None

-- a line is not good, and this is handed out of it
abbrev pub TakesBad : {L : Type 0} → Judges L → Bool → Held L → Held L → List ℕ → Option LastLine
    → Type 0
TakesBad judges keeps old new l last =
    AddsBad judges old new l × (new.ledger ≡ old.ledger)
    × (old.verdict ≡ None → IsHanded keeps (IsLine old.lines l) last)

-- this is kept of a line that was read so, and is not good
abbrev pub IsKept : Bool → List ℕ → Option Line → Option LastLine → Type 0
IsKept keeps l read last = IsHanded keeps (λ x. (x.bytes.items ≡ l) × (x.said ≡ read)) last

-- whether a line is good that nobody looks at
abbrev pub IsUnseen : {F : Type 0} → Result ⊤ Stop → Result Judged (Halt F) → Type 0
IsUnseen (Ok taken) result = result ≡ Ok Good
IsUnseen (Err stops.Decided) result = result ≡ Ok Bad
IsUnseen (Err stops.OutOfMemory) result = result ≡ Err halts.OutOfMemory

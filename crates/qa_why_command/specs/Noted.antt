-- Notes of the good lines of a trace, and its warnings by them.
use Rattle.std.specs.Prelude.{◌≡◌, ℕ, List, Result, Ok, Err}
use Rattle.std.specs.Io.KnownBytes.{Appends}
use Rattle.qa_check.specs.declared.auditing.AuditFault.{AuditFault}
use Rattle.qa_check.specs.declared.auditing.Outcome.{Outcome}
use Rattle.qa_format.specs.verdicts.Verdict.{Judging}
use Rattle.qa_why_command.specs.warnings.Keeping.{Covers}
use Rattle.qa_why_command.specs.warnings.Warnings.{warnings}
use Rattle.qa_why_command.specs.declared.warnings.warnings.Warnings.{Warnings}
use Rattle.qa_why_command.specs.Streams.{Input, Stream, WasTold}
use Rattle.qa_why_command.specs.Telling.{Counts, CountsFaults, StoppedText}
use Rattle.qa_why.specs.Why.{good_lines}

-- a text was written, and these are notes of the good lines; or it failed
abbrev pub Notes : {N : Type 0} → Judging → (List ℕ → List ℕ) → (List ℕ → Outcome)
    → (N → List (List ℕ) → Type 0)
    → Result (Outcome × N) AuditFault → Input → Input → Stream → Stream → Type 0
Notes judging text outcome covers (Ok known) input input' output output' =
    Counts judging input input'
    (λ bytes. (Appends output.0 output'.0 (text bytes) × (known.0 ≡ outcome bytes))
    × covers known.1 (good_lines judging bytes))
Notes judging text outcome covers (Err fault) input input' output output' =
    StoppedText judging text fault input input' output output'

abbrev pub TellsNoted : {N : Type 0} → Judging → (List ℕ → List ℕ) → (List ℕ → Outcome)
    → (N → List (List ℕ) → Type 0)
    → Result (Outcome × N) AuditFault → Input → Input → Stream → Stream → Type 0
TellsNoted judging text outcome covers result input input' output output' =
    Notes judging text outcome covers result input input' output output'
    × CountsFaults result input input' output output'

-- the kind of the verdict alone
abbrev pub unnoted : {N : Type 0} → Result (Outcome × N) AuditFault → Result Outcome AuditFault
unnoted (Ok known) = Ok known.0
unnoted (Err fault) = Err fault

-- where there is a verdict, what the trace is warned of was told on this stream, and else nothing
abbrev pub WasWarned : Result (Outcome × Warnings) AuditFault → Stream → Stream → Type 0
WasWarned (Ok known) error error' =
    (name : List ℕ) (ls : List (List ℕ)) → Covers name known.1 ls
    → WasTold error error' (warnings name ls)
WasWarned (Err fault) error error' = error' ≡ error

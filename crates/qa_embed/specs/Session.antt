-- What a session holds, and which bytes it was handed.
use Rattle.std.specs.Prelude.{◌≡◌, ℕ, Bool, true, false, List, Option, Some, None, Result, Ok, Err}
use Rattle.qa_check.specs.Auditor.{Audit, Audits}
use Rattle.qa_check.specs.Standing.{of_ledger}
use Rattle.qa_check.specs.declared.auditing.AuditFault.{AuditFault}
use Rattle.qa_check.specs.declared.auditor.Progress.{Progress}
use Rattle.qa_check.specs.declared.auditor.Progress.TheVariants as progress
use Rattle.qa_format.specs.declared.verdict.Verdict.{Verdict}
use Rattle.qa_format.specs.format.Reading.{reading}
use Rattle.qa_format.specs.verdicts.Verdict.{strict, verdict}
use Rattle.qa_sender.specs.Running.{State, IsAfter}
use Rattle.qa_embed.specs.declared.Phase.{Phase}
use Rattle.qa_embed.specs.declared.Phase.TheVariants.{Open, Fixed, Finished, OutOfMemory}

-- an audit, whether it was said that nothing follows, and the text that is kept of what was handed
-- in, where it is kept
pub record Run : Type 0 where
  pub audit : Audit State
  pub finished : Bool
  pub recorded : Option (List ℕ)

-- nothing can change it any more
abbrev pub IsOver : Result Progress AuditFault → Type 0
IsOver (Ok progress.Open) = ⊥
IsOver (Ok (progress.Fixed v)) = Unit {0}
IsOver (Err f) = Unit {0}

-- the phase of a session whose verdict is known
abbrev pub known_phase : Bool → Verdict → Phase
known_phase false v = Fixed v
known_phase true v = Finished v

abbrev pub phase_by : Bool → Result Progress AuditFault → Phase
phase_by finished (Ok progress.Open) = Open
phase_by finished (Ok (progress.Fixed v)) = known_phase finished v
phase_by finished (Err f) = OutOfMemory

-- how far a session is
abbrev pub phase_of : Run → Phase
phase_of run = phase_by run.finished run.audit.progress

-- the verdict that is known in a phase
abbrev pub verdict_in : Phase → Option Verdict
verdict_in Open = None
verdict_in (Fixed v) = Some v
verdict_in (Finished v) = Some v
verdict_in OutOfMemory = None

-- an audit that came so far has the verdict of these bytes
abbrev pub Concludes : Result Progress AuditFault → List ℕ → Type 0
Concludes (Ok progress.Open) bytes = ⊥
Concludes (Ok (progress.Fixed v)) bytes = v ≡ verdict (strict reading) bytes
Concludes (Err f) bytes = Unit {0}

abbrev pub IsFedBy : Bool → Audit State → List ℕ → Type 0
IsFedBy false audit bytes = Audits (of_ledger IsAfter) audit bytes
IsFedBy true audit bytes = Concludes audit.progress bytes

-- these bytes were handed to it, as bytes or by what their lines say; of one that is out of memory
-- nothing is said
abbrev pub IsFed : Run → List ℕ → Type 0
IsFed run bytes = IsFedBy run.finished run.audit bytes

-- the text that can be had of it: none once it is out of memory
abbrev pub recorded_by : Result Progress AuditFault → Option (List ℕ) → Option (List ℕ)
recorded_by (Ok progress) text = text
recorded_by (Err f) text = None

abbrev pub recorded_of : Run → Option (List ℕ)
recorded_of run = recorded_by run.audit.progress run.recorded

-- what follows can change the verdict
abbrev pub is_open : Result Progress AuditFault → Bool
is_open (Ok progress.Open) = true
is_open (Ok (progress.Fixed v)) = false
is_open (Err f) = false

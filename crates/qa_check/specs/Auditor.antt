-- What an auditor holds, and which bytes were fed to it.
use Rattle.std.specs.Prelude.{◌≡◌, ◌==◌, ℕ, Bool, false, List, length, Result, Ok}
use Rattle.std.specs.Prelude.{Err}
use Rattle.qa_format.specs.declared.verdict.Verdict.{Verdict}
use Rattle.qa_format.specs.format.Lines.{IsShortLine}
use Rattle.qa_format.specs.verdicts.Verdict.{verdict, IsFixed}
use Rattle.qa_cut.specs.Stream.{Stream, HasNoLine}
use Rattle.qa_check.specs.declared.auditing.AuditFault.{AuditFault}
use Rattle.qa_check.specs.declared.auditing.AuditFault.TheVariants as faults
use Rattle.qa_check.specs.declared.auditor.Progress.{Progress}
use Rattle.qa_check.specs.declared.auditor.Progress.TheVariants.{Open, Fixed}
use Rattle.qa_check.specs.declared.checker.Stop.{Stop}
use Rattle.qa_check.specs.declared.checker.Stop.TheVariants.{Decided, OutOfMemory}
use Rattle.qa_check.specs.Following.{Answers, Follows, IsReady}
use Rattle.qa_check.specs.Standing.{Held, Judges, by}

-- the bytes of the unfinished line, what is held of the lines before it, and how far the audit is,
-- or why it has failed
pub record Audit (L : Type 0) : Type 0 where
  pub stream : Stream
  pub held : Held L
  pub progress : Result Progress AuditFault

-- the next byte begins a line
abbrev pub is_between : {L : Type 0} → Audit L → Bool
is_between audit = length audit.stream.bytes == 0

-- more bytes can be taken
pub record TakesMore {L : Type 0} (stream : Stream) (held : Held L) : Type 0 where
  pub ready : IsReady stream
  pub empty : HasNoLine stream
  pub whole : held.failed ≡ false

-- these bytes bring an audit so far: while it is open they do not fix the verdict, and once it is
-- fixed they do, and it is theirs
abbrev pub BringsTo : {L : Type 0} → Judges L → Result Progress AuditFault → Stream → Held L
    → List ℕ → Type 0
BringsTo judges (Ok Open) stream held bytes =
    (IsFixed (by judges) bytes → ⊥) × IsShortLine stream.bytes
    × Follows judges stream.bytes held bytes
BringsTo judges (Ok (Fixed v)) stream held bytes =
    IsFixed (by judges) bytes × (v ≡ verdict (by judges) bytes)
BringsTo judges (Err f) stream held bytes = Unit {0}

-- these bytes were fed to it
abbrev pub Audits : {L : Type 0} → Judges L → Audit L → List ℕ → Type 0
Audits judges audit bytes = BringsTo judges audit.progress audit.stream audit.held bytes

-- so far comes an audit whose checker holds this and has stopped so: to the verdict of the lines,
-- or it is out of memory
abbrev pub Settles : {L : Type 0} → Judges L → Held L → Stop → Result Progress AuditFault → Type 0
Settles judges held Decided (Ok Open) = ⊥
Settles judges held Decided (Ok (Fixed v)) =
    (bytes : List ℕ) → Answers judges held bytes → v ≡ verdict (by judges) bytes
Settles judges held Decided (Err f) = f ≡ faults.OutOfMemory
Settles judges held OutOfMemory progress = progress ≡ Err faults.OutOfMemory

-- how far an audit is that ended with this result
abbrev pub progress_of : Result Verdict AuditFault → Result Progress AuditFault
progress_of (Ok v) = Ok (Fixed v)
progress_of (Err f) = Err f

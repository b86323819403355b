-- What each call of C leaves of what is kept, and returns.
use Rattle.std.specs.Prelude.{◌≡◌, ◌≢◌, ◌⊎◌, ◌≤◌, ◌<◌, ◌++◌, ℕ, true, false, List, length, drop}
use Rattle.std.specs.Prelude.{Option, Some, None}
use Rattle.qa_check.specs.Auditor.{is_between}
use Rattle.qa_check.specs.Standing.{IsLineOf}
use Rattle.qa_format.specs.declared.line.Line.{Line}
use Rattle.qa_format.specs.declared.verdict.Verdict.{Verdict}
use Rattle.qa_format.specs.format.Lines.{with_lf}
use Rattle.qaudit_c.specs.Statuses as statuses
use Rattle.qa_embed.specs.Recording.{GrowsIf}
use Rattle.qa_embed.specs.Session.{Run, IsFed, is_open, phase_of, recorded_of, verdict_in}
use Rattle.qa_embed.specs.declared.Phase.{Phase}
use Rattle.qa_embed.specs.declared.Phase.TheVariants.{Open, Fixed, Finished, OutOfMemory}

-- ---- statuses

abbrev pub phase_number : Phase → ℕ
phase_number Open = statuses.still_open
phase_number (Fixed v) = statuses.fixed
phase_number (Finished v) = statuses.finished
phase_number OutOfMemory = statuses.out_of_memory

-- the status of what a handle holds
abbrev pub status : Option Run → ℕ
status None = statuses.closed
status (Some run) = phase_number (phase_of run)

-- the verdict that is known of what a handle holds
abbrev pub verdict_known : Option Run → Option Verdict
verdict_known None = None
verdict_known (Some run) = verdict_in (phase_of run)

-- what a handle holds is out of memory
abbrev pub HasNoMemory : Option Run → Type 0
HasNoMemory None = ⊥
HasNoMemory (Some run) = phase_of run ≡ OutOfMemory

-- these bytes were handed to what a handle holds
abbrev pub HoldsFed : Option Run → List ℕ → Type 0
HoldsFed None bytes = ⊥
HoldsFed (Some run) bytes = IsFed run bytes

-- the text that is kept of what was handed to it
abbrev pub text_kept : Option Run → Option (List ℕ)
text_kept None = None
text_kept (Some run) = recorded_of run

-- ---- bytes

-- a session is fed the piece while it is open, and stays as it is from then on; it is not finished
-- by this. The piece is put behind the text that is kept, or none is kept any more
pub record FeedsRun (piece : List ℕ) (result : ℕ) (old new : Run) : Type 0 where
  pub status : result ≡ phase_number (phase_of new)
  pub fed : old.finished ≡ false → (bytes : List ℕ) → IsFed old bytes → IsFed new (bytes ++ piece)
  pub finished : old.finished ≡ true → new ≡ old
  pub same : new.finished ≡ old.finished
  pub kept : phase_of old ≢ Open → new ≡ old
  pub recorded : old.finished ≡ false
      → GrowsIf (is_open old.audit.progress) piece old.recorded new.recorded

abbrev pub Feeds : List ℕ → ℕ → Option Run → Option Run → Type 0
Feeds piece result None new = (result ≡ statuses.closed) × (new ≡ None)
Feeds piece result (Some old) new = (run : Run) × (new ≡ Some run) × FeedsRun piece result old run

-- ---- the end

-- a session is finished, and keeps a verdict that was fixed before
pub record FinishesRun (result : ℕ) (old new : Run) : Type 0 where
  pub status : result ≡ phase_number (phase_of new)
  pub over : new.finished ≡ true
  pub known : result ≢ statuses.still_open
  pub fed : (bytes : List ℕ) → IsFed old bytes → IsFed new bytes
  pub kept : phase_of old ≢ Open → new.audit ≡ old.audit

abbrev pub Finishes : ℕ → Option Run → Option Run → Type 0
Finishes result None new = (result ≡ statuses.closed) × (new ≡ None)
Finishes result (Some old) new = (run : Run) × (new ≡ Some run) × FinishesRun result old run

-- ---- a line by what it says

-- a value is outside its range, or the line was taken, which does not finish the session
abbrev pub TookLine : Option Line → ℕ → Run → Run → Type 0
TookLine None result old new = (result ≡ statuses.out_of_range) × (new ≡ old)
TookLine (Some x) result old new =
    (result ≡ phase_number (phase_of new)) × (new.finished ≡ old.finished)
    × ((bytes : List ℕ) (l : List ℕ) → IsLineOf x l → IsFed old bytes
    → IsFed new (bytes ++ with_lf l))

-- or there was no memory for what the event says
abbrev pub Took : Option Line → ℕ → Run → Run → Type 0
Took x result old new = ((result ≡ statuses.not_taken) × (new ≡ old)) ⊎ TookLine x result old new

-- nothing is taken once the verdict is fixed, or inside a line
pub record HandsRun (x : Option Line) (result : ℕ) (old new : Run) : Type 0 where
  pub over : phase_of old ≢ Open → (result ≡ phase_number (phase_of old)) × (new ≡ old)
  pub inside : phase_of old ≡ Open → is_between old.audit ≡ false
      → (result ≡ statuses.inside_line) × (new ≡ old)
  pub between : phase_of old ≡ Open → is_between old.audit ≡ true → Took x result old new

abbrev pub Hands : Option Line → ℕ → Option Run → Option Run → Type 0
Hands x result None new = (result ≡ statuses.closed) × (new ≡ None)
Hands x result (Some old) new = (run : Run) × (new ≡ Some run) × HandsRun x result old run

-- ---- texts and lists

-- the text has n bytes; where they fit they stand at the front, and all behind them is as it was;
-- else all is; and so for a list of other items
abbrev pub Tells : {A : Type 0} → ℕ → List A → List A → List A → Type 0
Tells n old new text =
    (n ≡ length text) × (n ≤ length old → new ≡ text ++ drop n old) × (length old < n → new ≡ old)

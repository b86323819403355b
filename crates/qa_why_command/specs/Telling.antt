-- What is told of one trace.
use Rattle.std.specs.Prelude.{◌≡◌, ◌&&◌, ℕ, Bool, not, true, false, List, Option, Some, Result, Ok}
use Rattle.std.specs.Prelude.{Err}
use Rattle.std.specs.Io.KnownBytes.{Appends}
use Rattle.qa_violations.specs.all.All.{all_outcome, all_written, past_sender_rules}
use Rattle.qa_violations.specs.around.Around.{around_written}
use Rattle.qa_violations.specs.declared.around.manner.Manner.{Manner}
use Rattle.qa_check.specs.Audit.{ReadsBy, ReadsEnoughBy, is_read_fault, is_write_fault, outcome_of}
use Rattle.qa_check.specs.Failures.{failures_after}
use Rattle.qa_check.specs.Writing.{Begins, BeginsToldRead, ShowsToldRead}
use Rattle.qa_check.specs.declared.auditing.AuditFault.{AuditFault}
use Rattle.qa_check.specs.declared.auditing.AuditFault.TheVariants as faults
use Rattle.qa_check.specs.declared.auditing.Outcome.{Outcome}
use Rattle.qa_commands.specs.Checking.{Then}
use Rattle.qa_format.specs.format.Reading.{reading}
use Rattle.qa_format.specs.verdicts.Explain.{told}
use Rattle.qa_format.specs.verdicts.Verdict.{Judging, strict, verdict}
use Rattle.qa_why.specs.json_rows.Rows.{row_of}
use Rattle.qa_why_command.specs.warnings.Warnings.{warnings}
use Rattle.qa_arguments.specs.why.Asked.{Wanted}
use Rattle.qa_arguments.specs.declared.why.arguments.Told.{Told}
use Rattle.qa_arguments.specs.declared.why.arguments.Told.TheVariants.{All, AllRows, Rows, Why}
use Rattle.qa_why_command.specs.Streams.{Input, Stream, Streams, WasTold}
use Rattle.qa_why.specs.Why.{good_lines}
use Rattle.qa_format.specs.declared.form.Form.{Form}

-- ---- what is wanted

-- violations of sender rules are passed over where all are told
abbrev pub judging_of : Told → Judging
judging_of (Why form) = strict reading
judging_of (All form) = past_sender_rules
judging_of Rows = strict reading
judging_of AllRows = past_sender_rules

abbrev pub are_rows : Told → Bool
are_rows (Why form) = false
are_rows (All form) = false
are_rows Rows = true
are_rows AllRows = true

-- how it is told in this form: with these lines before
abbrev pub manner : Form → Wanted → Manner
manner form w = record { form = form; quiet = w.quiet; around = w.around }

-- what is written of bytes under the name of their file, where this is told
abbrev pub text_of : Told → Wanted → List ℕ → List ℕ → List ℕ
text_of (Why form) w name bytes = around_written (manner form w) name bytes
text_of (All form) w name bytes = all_written (manner form w) name bytes
text_of Rows w name bytes = told row_of (strict reading) bytes
text_of AllRows w name bytes = told row_of past_sender_rules bytes

-- the kind of their verdict; a trace that violates a rule is not accepted where all violations are
-- told
abbrev pub outcome_by : Told → List ℕ → Outcome
outcome_by (Why form) bytes = outcome_of (verdict (strict reading) bytes)
outcome_by (All form) bytes = all_outcome bytes
outcome_by Rows bytes = outcome_of (verdict (strict reading) bytes)
outcome_by AllRows bytes = outcome_of (verdict past_sender_rules bytes)

-- where they are wanted, and no rows, the warnings of their good lines were told on this stream
abbrev pub Warns : Bool → Judging → List ℕ → List ℕ → Stream → Stream → Type 0
Warns true judging name bytes old new = WasTold old new (warnings name (good_lines judging bytes))
Warns false judging name bytes old new = new ≡ old

-- ---- of a reader

-- bytes were read, and none by the last read that did not count
abbrev pub ReadsFrom : Judging → Input → Input → Type 0
ReadsFrom judging input input' = ReadsBy judging input.0 input'.0 input'.1

-- these bytes were read, which are all that counts, and none by the last read that did not
abbrev pub ReadsAllOf : Judging → Input → Input → List ℕ → Type 0
ReadsAllOf judging input input' bytes = ReadsEnoughBy judging input.0 input'.0 input'.1 bytes

-- it holds of bytes that were read, which are all that counts, and of all that the reader had left,
-- where it tells them
pub record Counts (judging : Judging) (input input' : Input) (P : List ℕ → Type 0) : Type 0 where
  pub of_read : (bytes : List ℕ) × ReadsAllOf judging input input' bytes × P bytes
  pub of_all : (bytes : List ℕ) → input.0 ≡ Some bytes → P bytes

-- the bytes were told, and this is the kind of their verdict
abbrev pub TellsOf : Told → Wanted → List ℕ → Outcome → List ℕ → Streams → Streams → Type 0
TellsOf told w name outcome bytes before after =
    Appends before.output.0 after.output.0 (text_of told w name bytes)
    × (outcome ≡ outcome_by told bytes)
    × Warns (not (are_rows told) && w.warn) (judging_of told) name bytes before.error after.error

-- what stands written where a text failed: after a failed write a beginning of it, and else nothing
abbrev pub StoppedText : Judging → (List ℕ → List ℕ) → AuditFault → Input → Input → Stream → Stream
    → Type 0
StoppedText judging text faults.Read input input' output output' =
    ReadsFrom judging input input' × (output'.0 ≡ output.0)
StoppedText judging text faults.Write input input' output output' =
    (bytes : List ℕ) × ReadsAllOf judging input input' bytes
    × Begins output.0 output'.0 (text bytes)
StoppedText judging text faults.OutOfMemory input input' output output' =
    ReadsFrom judging input input' × (output'.0 ≡ output.0)

-- and where rows failed: after a failed read those of all lines that an LF ended in what was read,
-- and else a beginning
abbrev pub StoppedRows : Judging → AuditFault → Input → Input → Stream → Stream → Type 0
StoppedRows judging faults.Read input input' output output' =
    ShowsToldRead judging row_of input.0 input'.0 output.0 output'.0
StoppedRows judging faults.Write input input' output output' =
    BeginsToldRead judging row_of input.0 input'.0 input'.1 output.0 output'.0
    (told row_of judging)
StoppedRows judging faults.OutOfMemory input input' output output' =
    BeginsToldRead judging row_of input.0 input'.0 input'.1 output.0 output'.0
    (told row_of judging)

abbrev pub Stopped : Told → Wanted → List ℕ → AuditFault → Streams → Streams → Type 0
Stopped told w name fault before after =
    Then (are_rows told) (StoppedRows
    (judging_of told) fault before.input after.input before.output after.output)
    (StoppedText (judging_of told)
    (text_of told w name) fault before.input after.input before.output after.output)

-- what was told of the input, by which this is known of it
abbrev pub Tells : Told → Wanted → List ℕ → Result Outcome AuditFault → Streams → Streams → Type 0
Tells told w name (Ok outcome) before after =
    Counts (judging_of told) before.input after.input
    (λ bytes. TellsOf told w name outcome bytes before after)
Tells told w name (Err fault) before after =
    Stopped told w name fault before after × (after.error ≡ before.error)

-- a fault of the input or the output is known exactly where that failed, once
abbrev pub CountsFaults : {A : Type 0} → Result A AuditFault → Input → Input → Stream → Stream
    → Type 0
CountsFaults result input input' output output' =
    (input'.2 ≡ failures_after (is_read_fault result) input.2)
    × (output'.1 ≡ failures_after (is_write_fault result) output.1)

abbrev pub TellsRead : Told → Wanted → List ℕ → Result Outcome AuditFault → Streams → Streams
    → Type 0
TellsRead told w name result before after =
    Tells told w name result before after
    × CountsFaults result before.input after.input before.output after.output

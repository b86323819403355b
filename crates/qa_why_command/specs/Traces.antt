-- What is told of each trace in its turn, and of all.
use Rattle.std.specs.Prelude.{◌≡◌, ◌⊎◌, ◌&&◌, ℕ, Bool, not, true, false, List, [], ◌∷◌, codes}
use Rattle.std.specs.Prelude.{length, nat_lt, max, Result, Ok, Err}
use Rattle.std.specs.Io.KnownBytes.{Appends}
use Rattle.std.specs.List.{list_any}
use Rattle.std.specs.Str.{bytes_eq}
use Rattle.qa_check.specs.Failures.{failures_after}
use Rattle.qa_check.specs.Writing.{Begins}
use Rattle.qa_check.specs.declared.auditing.AuditFault.{AuditFault}
use Rattle.qa_check.specs.declared.auditing.AuditFault.TheVariants as faults
use Rattle.qa_check.specs.declared.auditing.Outcome.{Outcome}
use Rattle.qa_commands.specs.Checking.{Then}
use Rattle.qa_arguments.specs.why.Asked.{Wanted}
use Rattle.qa_arguments.specs.declared.why.arguments.Told.{Told}
use Rattle.qa_arguments.specs.declared.why.arguments.Told.TheVariants as told
use Rattle.qa_why_command.specs.Ending.{Ended, TellsFailure, ended_by, stops}
use Rattle.qa_why_command.specs.Logs.{TellsLog}
use Rattle.qa_why_command.specs.Streams.{Input, Stream, Streams}
use Rattle.qa_why_command.specs.Tally.{tally_line, tally_of}
use Rattle.qa_why_command.specs.Telling.{TellsRead}
use Rattle.qa_why_command.specs.declared.ending.Failure.{Failure}
use Rattle.qa_why_command.specs.declared.ending.Failure.TheVariants.{Audit, Log, Open}
use Rattle.qa_why_command.specs.declared.tally.Tally.{Tally}
use Rattle.qa_format.specs.declared.form.Form.TheVariants as form

-- ---- one trace

-- the name that stands for standard input
abbrev pub is_input : List ℕ → Bool
is_input name = bytes_eq name (codes "-")

-- what was told of standard input
abbrev pub TellsInput : Wanted → List ℕ → Ended → Streams → Streams → Type 0
TellsInput w name ended before after =
    (result : Result Outcome AuditFault) × (ended ≡ ended_by result)
    × TellsRead w.told w name result before after

-- what was told of the trace in a file: nothing, where it does not open; or it was read
abbrev pub TellsTraceIn : Wanted → List ℕ → Ended → Streams → Streams → Type 0
TellsTraceIn w name ended before after =
    ((ended ≡ Err Open) × (after ≡ before))
    ⊎ ((file : Input) × (file' : Input) × (after.input ≡ before.input)
    × TellsInput w name ended (record before { input = file }) (record after { input = file' }))

-- a file is a trace or a log
abbrev pub TellsFile : Wanted → List ℕ → Ended → Streams → Streams → Type 0
TellsFile w name ended before after =
    TellsTraceIn w name ended before after ⊎ TellsLog w name ended before after

abbrev pub TellsBefore : Wanted → List ℕ → Ended → Streams → Streams → Type 0
TellsBefore w name ended before after =
    Then (is_input name) (TellsInput w name ended before after)
    (TellsFile w name ended before after)

-- what was told of the trace of this name, which ended so, with the line of its failure behind it
abbrev pub TellsTrace : Wanted → List ℕ → Ended → Streams → Streams → Type 0
TellsTrace w name ended before after =
    (middle : Streams) × TellsBefore w name ended before middle
    × (after.input ≡ middle.input) × (after.output ≡ middle.output)
    × TellsFailure ended name middle.error after.error

-- ---- all traces

-- where no file is named it is standard input
abbrev pub names_of : List (List ℕ) → List (List ℕ)
names_of [] = codes "-" ∷ []
names_of (name ∷ names) = name ∷ names

-- what was told of the traces of these names in order, which ended so, up to a failed write
abbrev pub TellsEach : Wanted → List (List ℕ) → List Ended → Streams → Streams → Type 0
TellsEach w [] [] before after = after ≡ before
TellsEach w [] (ended ∷ endings) before after = ⊥
TellsEach w (name ∷ names) [] before after = ⊥
TellsEach w (name ∷ names) (ended ∷ endings) before after =
    (middle : Streams) × TellsTrace w name ended before middle
    × Then (stops ended) ((endings ≡ []) × (after ≡ middle))
    (TellsEach w names endings middle after)

-- ---- the line of counts

abbrev pub is_text : Told → Bool
is_text (told.Why form.Text) = true
is_text (told.Why form.Json) = false
is_text (told.All form.Text) = true
is_text (told.All form.Json) = false
is_text told.Rows = false
is_text told.AllRows = false

-- the line of counts stands behind several traces in text
abbrev pub is_counted : Wanted → Bool
is_counted w = nat_lt 1 (length w.files) && is_text w.told

-- the line was written; or a beginning of it, where the output failed; or nothing, where it is out
-- of memory
abbrev pub WritesCounts : Tally → Result (Unit {0}) Failure → Stream → Stream → Type 0
WritesCounts t (Ok u) old new = Appends old.0 new.0 (tally_line t) × (new.1 ≡ old.1)
WritesCounts t (Err Open) old new = ⊥
WritesCounts t (Err Log) old new = ⊥
WritesCounts t (Err (Audit faults.Read)) old new = ⊥
WritesCounts t (Err (Audit faults.Write)) old new =
    Begins old.0 new.0 (tally_line t) × (new.1 ≡ failures_after true old.1)
WritesCounts t (Err (Audit faults.OutOfMemory)) old new = new ≡ old

abbrev pub status_behind : Result (Unit {0}) Failure → ℕ → ℕ
status_behind (Ok u) status = status
status_behind (Err failure) status = max status 3

-- with the line of its failure, and the exit status
abbrev pub TellsCounts : Tally → ℕ → Stream → Stream → Stream → Stream → Type 0
TellsCounts t status output output' error error' =
    (line : Result (Unit {0}) Failure) × WritesCounts t line output output'
    × TellsFailure line (codes "-") error error'
    × (status ≡ status_behind line t.status)

-- ---- the whole

-- each trace was told in its turn, and behind them, where that is wanted and no write failed, how
-- many came to which verdict; the exit status is the greatest
pub record TellsAll (w : Wanted) (status : ℕ) (before after : Streams) : Type 0 where
  pub endings : List Ended
  pub middle : Streams
  pub each : TellsEach w (names_of w.files) endings before middle
  pub input : after.input ≡ middle.input
  pub counts : Then (is_counted w && not (list_any stops endings))
      (TellsCounts (tally_of endings) status middle.output after.output middle.error after.error)
      ((after ≡ middle) × (status ≡ (tally_of endings).status))

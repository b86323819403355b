-- What arguments make the program write.
use Rattle.std.specs.Prelude.{◌≡◌, ◌⊎◌, ℕ, Bool, true, false, List, [], codes}
use Rattle.std.specs.Io.KnownBytes.{Appends}
use Rattle.std.specs.List.{list_any}
use Rattle.qa_arguments.specs.declared.fault.ArgumentsFault.{ArgumentsFault}
use Rattle.qa_arguments.specs.declared.fault.ArgumentsFault.TheVariants as arguments
use Rattle.qa_check.specs.Failures.{failures_after}
use Rattle.qa_check.specs.Writing.{Begins}
use Rattle.qa_check.specs.declared.auditing.AuditFault.TheVariants as faults
use Rattle.qa_commands.specs.Names.{line_with, shown_lines}
use Rattle.qa_arguments.specs.why.Asked.{Request, refuses, shows, tells}
use Rattle.qa_arguments.specs.why.Words.{asked}
use Rattle.qa_why_command.specs.Ending.{failure_line}
use Rattle.qa_why_command.specs.Streams.{Stream, Streams, WasTold}
use Rattle.qa_why_command.specs.Traces.{TellsAll, is_input, names_of}
use Rattle.qa_why_command.specs.declared.ending.Failure.TheVariants.{Audit}

-- this text was written; or a beginning of it, where the output failed, which is told; with the
-- exit status
abbrev pub Shows : List ℕ → ℕ → Stream → Stream → Stream → Stream → Type 0
Shows text status output output' error error' =
    ((status ≡ 0) × Appends output.0 output'.0 text × (output'.1 ≡ output.1) × (error' ≡ error))
    ⊎ ((status ≡ 3) × Begins output.0 output'.0 text × (output'.1 ≡ failures_after true output.1)
    × WasTold error error' (failure_line (Audit faults.Write) (codes "standard output")))

-- nothing was told but a text on the error stream
abbrev pub TellsOnly : List ℕ → Streams → Streams → Type 0
TellsOnly text before after =
    (after.input ≡ before.input) × (after.output ≡ before.output)
    × WasTold before.error after.error text

-- the arguments were refused by the lines of a text, in which nothing is hidden
abbrev pub Refuses : ℕ → Streams → Streams → Type 0
Refuses status before after =
    (status ≡ 64) × ((text : List ℕ) × TellsOnly (shown_lines text) before after)

-- the arguments cannot be read for want of memory
abbrev pub LacksMemory : ℕ → Streams → Streams → Type 0
LacksMemory status before after =
    (status ≡ 3) × TellsOnly
    (failure_line (Audit faults.OutOfMemory) (codes "arguments")) before after

-- a text, the help or the version, was asked for
abbrev pub ShowsText : ℕ → Streams → Streams → Type 0
ShowsText status before after =
    (text : List ℕ) × (after.input ≡ before.input)
    × Shows text status before.output after.output before.error after.error

abbrev pub Performs : Request → ℕ → Streams → Streams → Type 0
Performs (tells w) status before after = TellsAll w status before after
Performs shows status before after = ShowsText status before after
Performs refuses status before after = Refuses status before after

-- what these arguments make the program write, and the exit status: what they ask for, or nothing,
-- where it is out of memory
abbrev pub Commands : List (List ℕ) → ℕ → Streams → Streams → Type 0
Commands words status before after =
    Performs (asked words) status before after ⊎ LacksMemory status before after

-- standard input is one of the traces that are asked for
abbrev pub asks_for_input : Request → Bool
asks_for_input (tells w) = list_any is_input (names_of w.files)
asks_for_input shows = false
asks_for_input refuses = false

-- what is told where the arguments cannot be read, with the exit status
abbrev pub IsRefused : ArgumentsFault → ℕ → Stream → Stream → Type 0
IsRefused arguments.Refused status error error' =
    (status ≡ 64) × WasTold error error'
    (line_with (codes "qaudit-why: an argument is not UTF-8") [])
IsRefused arguments.OutOfMemory status error error' =
    (status ≡ 3) × WasTold error error'
    (failure_line (Audit faults.OutOfMemory) (codes "arguments"))

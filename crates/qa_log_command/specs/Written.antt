-- What is written to the output.
use Rattle.std.specs.Prelude.{◌≡◌, ℕ, Bool, false, List, Option}
use Rattle.std.specs.List.{AllByRecursion}
use Rattle.qa_commands.specs.Writes.{Writes}
use Rattle.qa_convert.specs.OwnKeys.{IsWritten, Noted, texts_of}
use Rattle.qa_format.specs.format.Lines.{ended}
use Rattle.qa_log_command.specs.declared.ending.Ending.{Ending}
use Rattle.qa_log_command.specs.declared.ending.Ending.TheVariants.{Written, NoTrace}
use Rattle.qa_log_command.specs.declared.ending.Ending.TheVariants.{Failed, Refused}

-- the bytes that were written to a writer, if it tells them, and the count of its failures
abbrev pub Stream : Type 0
Stream = Option (List ℕ) × ℕ

-- bytes are lines that a reader of traces reads, each ended by LF
abbrev pub AreLines : List ℕ → Type 0
AreLines bytes = (ns : List Noted) × AllByRecursion IsWritten ns × (bytes ≡ ended (texts_of ns))

-- such lines were written; or a beginning of them by a writer that failed, which is counted
abbrev pub WritesLines : Bool → Stream → Stream → Type 0
WritesLines failed old new =
    (bytes : List ℕ) × AreLines bytes × Writes failed old.0 new.0 old.1 new.1 bytes

-- some text was written, or a beginning of it
abbrev pub WritesText : Bool → Stream → Stream → Type 0
WritesText failed old new = (text : List ℕ) × Writes failed old.0 new.0 old.1 new.1 text

-- what was written to the output, by how the program ends: if the log gives no trace, whole lines
-- of one; if the arguments are refused, nothing
abbrev pub Leaves : Ending → Stream → Stream → Type 0
Leaves Written old new = WritesText false old new
Leaves NoTrace old new = WritesLines false old new
Leaves Failed old new = (failed : Bool) × WritesText failed old new
Leaves Refused old new = new ≡ old

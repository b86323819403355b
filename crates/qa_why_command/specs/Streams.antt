-- The streams of the program at one time, and what was written to them.
use Rattle.std.specs.Prelude.{ℕ, Bool, List, Option}
use Rattle.qa_commands.specs.Writes.{Writes}

-- the bytes that were written to a writer, where it tells them, and the count of its failures
abbrev pub Stream : Type 0
Stream = Option (List ℕ) × ℕ

-- the bytes that a reader has left, where it tells them, how many its last read gave, and the count
-- of its failures
abbrev pub Input : Type 0
Input = Option (List ℕ) × ℕ × ℕ

pub record Streams : Type 0 where
  pub input : Input
  pub output : Stream
  pub error : Stream

abbrev pub streams : Input → Stream → Stream → Streams
streams input output error = record { input = input; output = output; error = error }

-- this text was written, or a beginning of it by a stream that failed, which is counted
abbrev pub WasTold : Stream → Stream → List ℕ → Type 0
WasTold old new text = (failed : Bool) × Writes failed old.0 new.0 old.1 new.1 text

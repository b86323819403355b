-- What is told before a terminal is read.
use Rattle.std.specs.Prelude.{◌≡◌, ◌&&◌, ℕ, Bool, true, false, List, [], codes, Result, Ok, Err}
use Rattle.std.specs.declared.alloc.AllocError.{AllocError}
use Rattle.qa_arguments.specs.why.Words.{asked}
use Rattle.qa_commands.specs.Names.{line_with}
use Rattle.qa_why_command.specs.Commands.{asks_for_input}
use Rattle.qa_why_command.specs.Streams.{Stream, WasTold}

-- somebody may wait for an answer who has to type first
abbrev pub waiting : List ℕ
waiting = line_with (codes "qaudit-why: reading standard input") []

abbrev Told : Bool → Stream → Stream → Type 0
Told true error error' = WasTold error error' waiting
Told false error error' = error' ≡ error

-- that is told if standard input is a terminal, and one of the traces that are asked for; not where
-- it is out of memory
abbrev pub Announces : List (List ℕ) → Bool → Result Bool AllocError → Stream → Stream → Type 0
Announces words is_terminal (Err fault) error error' = error' ≡ error
Announces words is_terminal (Ok waits) error error' =
    (waits ≡ (is_terminal && asks_for_input (asked words))) × Told waits error error'

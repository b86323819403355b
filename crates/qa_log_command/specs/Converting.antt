-- All lines of the trace of a log, written.
use Rattle.std.specs.Prelude.{◌≡◌, ◌++◌, ℕ, false, List}
use Rattle.std.specs.List.{concat}
use Rattle.qa_commands.specs.Writes.{Writes}
use Rattle.qa_logs.specs.Cutting.{Steps}
use Rattle.qa_logs.specs.Tracing.{Traced, given, shown}
use Rattle.qa_logs.specs.declared.choosing.Request.{Request}
use Rattle.qa_log_lines.specs.Reading.{GivesLines, IsBegun}
use Rattle.qa_log_command.specs.Written.{Stream}

-- the lines of a trace from this point on, which ends there, were written, and all given away
abbrev pub WritesAll : Traced → Traced → Stream → Stream → Type 0
WritesAll start end old new = (parts : List (List ℕ)) × (last : Traced)
    × Steps GivesLines start parts last × (end ≡ given last)
    × Writes false old.0 new.0 old.1 new.1 (concat parts ++ shown last)

-- all lines of the trace of a log were written
abbrev pub Converts : Request → Traced → Stream → Stream → Type 0
Converts request trace old new =
    (start : Traced) × IsBegun request start × WritesAll start trace old new

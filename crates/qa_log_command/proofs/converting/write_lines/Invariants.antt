use Rattle.std.proofs.Common.{◌≡◌, ◌++◌, ℕ, List, false, true}
use Rattle.std.specs.List.{concat}
use Rattle.qa_commands.specs.Writes.{Writes}
use Rattle.qa_logs.specs.Cutting.{Steps}
use Rattle.qa_logs.specs.Tracing.{shown}
use Rattle.qa_log_lines.specs.Reading.{GivesLines}
use Rattle.qa_log_command.specs.Written.{WritesLines}
use Rattle.qa_log_command.proofs.converting.write_lines.Given as goal

abbrev pub invariant-lines : goal.invariant-lines
invariant-lines g l = record {
  written : WritesLines false (g.O.Sink.held l.fn.output, g.O.Sink.write_failures l.fn.output)
      (g.O.Sink.held l.output, g.O.Sink.write_failures l.output);
  all : (parts : List (List ℕ)) × Steps GivesLines l.fn.lines.0 parts l.lines.0
      × Writes false (g.O.Sink.held l.fn.output) (g.O.Sink.held l.output)
      (g.O.Sink.write_failures l.fn.output) (g.O.Sink.write_failures l.output)
      (concat parts ++ shown l.lines.0);
  header : l.fn.lines.1 ≡ false → l.lines.1 ≡ true → l.lines.0.has_header ≡ false;
}

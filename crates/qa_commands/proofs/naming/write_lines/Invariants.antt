use Rattle.std.proofs.Common.{false, length, take}
use Rattle.std.specs.Prelude.{flat_map}
use Rattle.std.specs.Str.{chars}
use Rattle.qa_commands.specs.Names.{shown_in_lines}
use Rattle.qa_commands.specs.Writes.{Writes}
use Rattle.qa_commands.proofs.naming.write_lines.Given as goal

abbrev pub invariant-loop-character : goal.invariant-loop-character
invariant-loop-character g l =
    Writes false (g.S.Sink.held l.fn.sink) (g.S.Sink.held l.sink) (g.S.Sink.write_failures l.fn.sink) (g.S.Sink.write_failures l.sink)
    (flat_map shown_in_lines (take (length l.yielded) (chars l.text)))

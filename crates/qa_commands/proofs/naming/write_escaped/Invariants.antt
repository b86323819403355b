use Rattle.std.proofs.Common.{false, take}
use Rattle.std.specs.Prelude.{flat_map}
use Rattle.qa_check.specs.names.Names.{escaped}
use Rattle.qa_commands.specs.Writes.{Writes}
use Rattle.qa_commands.proofs.naming.write_escaped.Given as goal

abbrev pub invariant-loop-byte : goal.invariant-loop-byte
invariant-loop-byte g l =
    Writes false (g.S.Sink.held l.fn.sink) (g.S.Sink.held l.sink) (g.S.Sink.write_failures l.fn.sink) (g.S.Sink.write_failures l.sink)
    (flat_map escaped (take l.byte-index l.bytes))

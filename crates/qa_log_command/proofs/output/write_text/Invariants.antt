use Rattle.std.proofs.Common.{◌≡◌, ◌≤◌, ◌-◌, length, take}
use Rattle.std.specs.Io.KnownBytes.{Appends}
use Rattle.qa_log_command.proofs.output.write_text.Given as goal

abbrev pub invariant-loop-at : goal.invariant-loop-at
invariant-loop-at g l = record {
  within : l.at ≤ length l.bytes;
  written : Appends (g.W.Sink.held l.fn.writer) (g.W.Sink.held l.writer) (take l.at l.bytes);
  unfailed : g.W.Sink.write_failures l.writer ≡ g.W.Sink.write_failures l.fn.writer;
}

abbrev pub decreases-loop-at : goal.decreases-loop-at
decreases-loop-at g l = length l.bytes - l.at

use Rattle.std.proofs.Common.{◌≡◌, List, nat_lt, length, drop}
use Rattle.qa_commands.proofs.Endings.{Ended, Led}
use Rattle.qa_commands.proofs.checking.check_files.Given as goal

abbrev pub invariant-loop-name : goal.invariant-loop-name
invariant-loop-name g l = record {
  several : l.several ≡ nat_lt 1 (length l.files);
  endings : List Ended;
  led : Led l.several l.files (g.O.Sink.held l.fn.output) (drop l.name-index l.files) (g.O.Sink.held l.output) endings l.greatest
      (g.E.Sink.held l.fn.error) (g.E.Sink.held l.error) (g.E.Sink.write_failures l.fn.error) (g.E.Sink.write_failures l.error);
  unfailed : g.O.Sink.write_failures l.output ≡ g.O.Sink.write_failures l.fn.output;
}

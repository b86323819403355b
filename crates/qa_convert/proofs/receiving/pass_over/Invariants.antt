use Rattle.std.proofs.Common.{◌≡◌}
use Rattle.qa_convert.specs.Telling.{told_in}
use Rattle.qa_convert.proofs.receiving.pass_over.Given as goal

abbrev pub invariant-loop-ack : goal.invariant-loop-ack
invariant-loop-ack l = record {
  told : told_in l.writing ≡ told_in l.initial.writing;
  unit : l.writing.output.unit ≡ l.initial.writing.output.unit;
}

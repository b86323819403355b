use Rattle.std.proofs.Common.{◌≡◌}
use Rattle.qa_convert.specs.Telling.{told_in}
use Rattle.qa_convert.proofs.writing.Writing.forget.Given as goal

abbrev pub invariant-loop-number : goal.invariant-loop-number
invariant-loop-number l = record {
  told : told_in l.self ≡ told_in l.initial.self;
  unit : l.self.output.unit ≡ l.initial.self.output.unit;
}

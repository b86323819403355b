use Rattle.std.proofs.Common.{◌≡◌}
use Rattle.qa_convert.specs.Rules.{rules_of}
use Rattle.qa_convert.specs.Telling.{told_in}
use Rattle.qa_convert.proofs.conversion.Conversion.write_lost_of.Given as goal

abbrev pub invariant-loop-number : goal.invariant-loop-number
invariant-loop-number l = record {
  told : told_in l.self.writing ≡ told_in l.initial.self.writing;
  rules : rules_of l.self ≡ rules_of l.initial.self;
  bare : l.self.writing.bare ≡ l.initial.self.writing.bare;
}

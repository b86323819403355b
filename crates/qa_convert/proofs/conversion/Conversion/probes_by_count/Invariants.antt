use Rattle.std.proofs.Common.{◌≡◌}
use Rattle.qa_convert.specs.Rules.{rules_of}
use Rattle.qa_convert.specs.Telling.{told_in}
use Rattle.qa_convert.proofs.conversion.Conversion.probes_by_count.Given as goal

abbrev pub invariant-loop : goal.invariant-loop
invariant-loop l = record {
  told : told_in l.self.writing ≡ told_in l.initial.self.writing;
  rules : rules_of l.self ≡ rules_of l.initial.self;
}

use Rattle.std.proofs.Common.{◌≡◌}
use Rattle.qa_convert.specs.Rules.{rules_of}
use Rattle.qa_convert.proofs.conversion.Conversion.see_first.Given as goal

abbrev pub invariant-loop-it : goal.invariant-loop-it
invariant-loop-it l = record {
  writing : l.self.writing ≡ l.initial.self.writing;
  rules : rules_of l.self ≡ rules_of l.initial.self;
}

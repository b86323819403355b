use Rattle.std.proofs.Common.{◌≡◌, take}
use Rattle.qa_convert.specs.Rules.{rules_of, rules_stated}
use Rattle.qa_convert.proofs.conversion.Conversion.take_beside.Given as goal

abbrev pub invariant-loop-event : goal.invariant-loop-event
invariant-loop-event l = record {
  writing : l.self.writing ≡ l.initial.self.writing;
  rules : rules_of l.self ≡ rules_stated (take l.event-index l.beside) (rules_of l.initial.self);
}

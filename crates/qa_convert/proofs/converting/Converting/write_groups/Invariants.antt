use Rattle.std.proofs.Common.{◌≡◌, length}
use Rattle.qa_convert.specs.GroupLines.{TellsOf}
use Rattle.qa_convert.specs.Rules.{rules_after, rules_of}
use Rattle.qa_convert.specs.Telling.{Told, told_in}
use Rattle.qa_convert.proofs.converting.Converting.write_groups.Given as goal

abbrev pub invariant-loop-group : goal.invariant-loop-group
invariant-loop-group l = record {
  events : l.self.events.items ≡ l.initial.self.events.items;
  order : l.self.order ≡ l.initial.self.order;
  head : l.self.head ≡ l.initial.self.head;
  cursor : l.self.cursor ≡ l.initial.self.cursor;
  retry : l.self.retry ≡ l.initial.self.retry;
  groups : l.self.groups ≡ l.initial.self.groups;
  rules : rules_after l.initial.self.ready.items (rules_of l.initial.self.conversion) ≡ rules_after l.self.ready.items (rules_of l.self.conversion);
  told : (after : Told) → TellsOf (rules_of l.self.conversion) l.self.ready.items (told_in l.self.conversion.writing) after
      → TellsOf (rules_of l.initial.self.conversion) l.initial.self.ready.items (told_in l.initial.self.conversion.writing) after;
}

abbrev pub decreases-loop-group : goal.decreases-loop-group
decreases-loop-group l = length l.self.ready.items

use Rattle.std.proofs.Common.{◌≡◌, ◌++◌, List, length}
use Rattle.qa_convert.specs.Groups.{Gathers}
use Rattle.qa_convert.specs.declared.event.LoggedEvent.{LoggedEvent}
use Rattle.qa_convert.proofs.converting.Converting.group.Given as goal

abbrev pub invariant-loop-event : goal.invariant-loop-event
invariant-loop-event l = record {
  done : List LoggedEvent;
  all : done ++ l.self.events.items ≡ l.initial.self.events.items;
  gathers : Gathers l.initial.self.groups done l.self.groups l.initial.self.ready.items l.self.ready.items;
  order : l.self.order ≡ l.initial.self.order;
  head : l.self.head ≡ l.initial.self.head;
  cursor : l.self.cursor ≡ l.initial.self.cursor;
  retry : l.self.retry ≡ l.initial.self.retry;
  conversion : l.self.conversion ≡ l.initial.self.conversion;
}

abbrev pub decreases-loop-event : goal.decreases-loop-event
decreases-loop-event l = length l.self.events.items

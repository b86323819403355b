use Rattle.std.proofs.Common.{◌≡◌, ◌++◌, Bool, take}
use Rattle.std.specs.Vec.Iter.{into_iter_items}
use Rattle.qa_convert.specs.Losing.{lost_in, packets_of}
use Rattle.qa_convert.specs.States.{state_after}
use Rattle.qa_convert.proofs.losing.joined.Given as goal

abbrev pub invariant-loop-it : goal.invariant-loop-it
invariant-loop-it l = record {
  all : lost_in l.events.items ≡ packets_of (take l.it-index l.fn.losses.items);
  states : (before : Bool) → state_after l.events.items before ≡ before;
}

abbrev pub invariant-loop-event : goal.invariant-loop-event
invariant-loop-event l = record {
  next : (goal.iterator-loop-event).can_next l.event-iterator;
  finite : (goal.iterator-loop-event).is_finite l.event-iterator;
  all : lost_in l.events.items ++ lost_in (into_iter_items l.event-iterator) ≡ packets_of l.fn.losses.items ++ lost_in l.fn.beside.items;
  states : (before : Bool) → state_after (into_iter_items l.event-iterator) (state_after l.events.items before) ≡ state_after l.fn.beside.items before;
}

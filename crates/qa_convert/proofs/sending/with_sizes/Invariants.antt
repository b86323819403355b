use Rattle.std.proofs.Common.{◌++◌, Bool, List}
use Rattle.std.specs.Vec.Iter.{into_iter_items}
use Rattle.qa_convert.specs.Sending.{AreOf}
use Rattle.qa_convert.specs.Telling.{sized}
use Rattle.qa_convert.specs.declared.sending.Outgoing.{Outgoing}
use Rattle.qa_convert.proofs.sending.with_sizes.Given as goal

abbrev pub invariant-loop-it : goal.invariant-loop-it
invariant-loop-it l = record {
  next : (goal.iterator-loop-it).can_next l.it-iterator;
  finite : (goal.iterator-loop-it).is_finite l.it-iterator;
  all : (s g : Bool) (tail : List Outgoing) → AreOf s g (sized (into_iter_items l.it-iterator)) tail
      → AreOf s g (sized l.fn.packets.items) (l.found.items ++ tail);
}

use Rattle.qa_reference.proofs.Counted.{each_count}
use Rattle.qa_reference.proofs.whole.WholeState.is_late.Goals as goal

pub is_late-requires : goal.is_late-requires
is_late-requires c = record {
  counted = rw c.deref.ensures.value (each_count c.self.inside.header c.self.inside.events.items c.self.invariant.run c.self.invariant.timely);
}

use Rattle.std.proofs.Common.{◌∙◌, ap}
use Rattle.qaudit_c.specs.Calls.{phase_number}
use Rattle.qaudit_c.proofs.qaudit_feed.Goals as goal

-- Written out, so that a wrong body is refused at these lines.
pub returns : goal.returns
returns c = rw (c.take.ensures.taken, c.in-Some.is) (
  c.feed-phase.new.self,
  c.put.ensures,
  record {
    status = c.number.ensures.number ∙ ap phase_number c.feed-phase.ensures.phase;
    fed = rw c.deref_mut.ensures.value at c.feed-phase.ensures.fed;
    finished = rw c.deref_mut.ensures.value at c.feed-phase.ensures.finished;
    same = rw c.deref_mut.ensures.value at c.feed-phase.ensures.same;
    kept = rw c.deref_mut.ensures.value at c.feed-phase.ensures.kept;
    recorded = rw c.deref_mut.ensures.value at c.feed-phase.ensures.recorded;
  },
)

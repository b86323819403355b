use Rattle.std.proofs.Common.{◌≡◌}
use Rattle.std.specs.Vec.Iter.{into_iter_items}
use Rattle.qa_convert.specs.Reading.{events_at}
use Rattle.qa_convert.specs.Taking.{Goes, Progress, progress_of, told_of}
use Rattle.qa_convert.specs.Telling.{Told}
use Rattle.qa_convert.proofs.converting.Converting.pass_all.Given as goal

abbrev pub invariant-loop-said : goal.invariant-loop-said
invariant-loop-said l = record {
  next : (goal.iterator-loop-said).can_next l.said-iterator;
  finite : (goal.iterator-loop-said).is_finite l.said-iterator;
  goes : (new : Progress) (after : Told) → Goes (events_at l.at (into_iter_items l.said-iterator)) (progress_of l.self) (told_of l.self) new after
      → Goes (events_at l.at l.fn.all.items) (progress_of l.initial.self) (told_of l.initial.self) new after;
  cursor : l.self.cursor ≡ l.initial.self.cursor;
}

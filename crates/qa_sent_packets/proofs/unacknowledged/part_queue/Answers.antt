use Rattle.std.proofs.Common.{◌∙◌, sym, subst}
use Rattle.qa_sent_packets.specs.Unacknowledged.{EntriesRise}
use Rattle.qa_sent_packets.proofs.unacknowledged.part_queue.Goals as goal

pub loop-gaps-preserved : goal.loop-gaps-preserved
loop-gaps-preserved c = record {
  same = c.move_first.ensures.entries ∙ c.loop-gaps.invariant.same;
  rising = subst EntriesRise (sym c.move_first.ensures.entries) c.loop-gaps.invariant.rising;
  below = λ end more all. c.move_first.ensures.below end more (c.loop-gaps.invariant.below end more all);
}

pub returns-in_err-move_first-clause-below : goal.returns-in_err-move_first-clause-below
returns-in_err-move_first-clause-below c = λ end more all. c.move_first.ensures.below end more (c.loop-gaps.invariant.below end more all)

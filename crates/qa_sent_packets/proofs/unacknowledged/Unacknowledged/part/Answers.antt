use Rattle.std.proofs.Common.{sym, subst, arith}
use Rattle.qa_sent_packets.specs.Unacknowledged.{EntriesRise}
use Rattle.qa_sent_packets.proofs.Rising.{all_higher}
use Rattle.qa_sent_packets.proofs.unacknowledged.Unacknowledged.part.Goals as goal

pub invariant_of-self : goal.invariant_of-self
invariant_of-self c =
    let end = c.max-self-inside.result in
    let greater = c.max-self-inside.ensures in
    record {
      rising = subst EntriesRise (sym c.part_queue.ensures.entries) c.self.invariant.rising;
      below = c.part_queue.ensures.below end (omega (arith, greater)) (all_higher c.self.inside.end end c.self.inside.gaps.entries (omega (arith, greater)) c.self.invariant.below);
    }

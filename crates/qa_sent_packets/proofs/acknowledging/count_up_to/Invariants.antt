use Rattle.std.proofs.Common.{◌≡◌, min, take}
use Rattle.std.specs.Prelude.{sum_by}
use Rattle.qa_sent_packets.specs.Covering.{width}
use Rattle.qa_sent_packets.proofs.acknowledging.count_up_to.Given as goal

abbrev pub invariant-loop-span : goal.invariant-loop-span
invariant-loop-span l = l.count ≡ min l.most (sum_by width (take l.span-index l.spans))

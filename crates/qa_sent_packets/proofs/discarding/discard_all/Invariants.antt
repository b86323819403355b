use Rattle.std.proofs.Common.{◌≡◌, ◌++◌, drop, map, take}
use Rattle.qa_sent_packets.specs.Steps.{discarded_in}
use Rattle.qa_sent_packets.proofs.discarding.discard_all.Given as goal

abbrev pub invariant-loop-at : goal.invariant-loop-at
invariant-loop-at l = l.packets.items ≡ map (discarded_in l.space) (take l.at l.fn.packets.items) ++ drop l.at l.fn.packets.items

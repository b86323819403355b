use Rattle.std.proofs.Common.{◌≡◌, ◌++◌, drop, map, take}
use Rattle.qa_sent_packets.specs.Steps.{declared}
use Rattle.qa_sent_packets.proofs.declaring.declare_in.Given as goal

abbrev pub invariant-loop-at : goal.invariant-loop-at
invariant-loop-at l = l.packets.items ≡ map declared (take l.at l.fn.packets.items) ++ drop l.at l.fn.packets.items

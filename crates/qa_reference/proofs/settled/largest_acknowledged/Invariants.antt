use Rattle.std.proofs.Common.{◌≡◌, take}
use Rattle.qa_base.specs.machine.Packets.{history_of, largest_acknowledged}
use Rattle.qa_reference.proofs.settled.largest_acknowledged.Given as goal

abbrev pub invariant-loop-event : goal.invariant-loop-event
invariant-loop-event l = l.most ≡ largest_acknowledged (history_of (take l.event-index l.events)) l.space

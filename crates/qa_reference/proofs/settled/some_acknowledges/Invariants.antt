use Rattle.std.proofs.Common.{◌≡◌, drop}
use Rattle.std.specs.List.{list_any}
use Rattle.qa_base.specs.values.Events.{acknowledges}
use Rattle.qa_reference.proofs.settled.some_acknowledges.Given as goal

abbrev pub invariant-loop-event : goal.invariant-loop-event
invariant-loop-event l = list_any (acknowledges l.packet.space l.packet.number) (drop l.event-index l.events) ≡ list_any (acknowledges l.packet.space l.packet.number) l.events

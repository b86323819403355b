use Rattle.std.proofs.Common.{◌≡◌, drop}
use Rattle.std.specs.List.{list_any}
use Rattle.qa_base.specs.values.Events.{declares_lost}
use Rattle.qa_reference.proofs.settled.some_declares_lost.Given as goal

abbrev pub invariant-loop-event : goal.invariant-loop-event
invariant-loop-event l = list_any (declares_lost l.packet.space l.packet.number) (drop l.event-index l.events) ≡ list_any (declares_lost l.packet.space l.packet.number) l.events

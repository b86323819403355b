use Rattle.std.proofs.Common.{◌≡◌, take}
use Rattle.qa_base.specs.machine.Packets.{history_of}
use Rattle.qa_base.specs.machine.Window.{reported_window}
use Rattle.qa_reference.proofs.reported.reported_window.Given as goal

abbrev pub invariant-loop-event : goal.invariant-loop-event
invariant-loop-event l = l.window ≡ reported_window l.header (history_of (take l.event-index l.events))

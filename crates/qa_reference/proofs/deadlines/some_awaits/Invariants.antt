use Rattle.std.proofs.Common.{◌≡◌, take, filter}
use Rattle.std.specs.List.{list_any}
use Rattle.qa_base.specs.machine.Packets.{history_of, packets}
use Rattle.qa_base.specs.machine.Packets.{is_of}
use Rattle.qa_base.specs.machine.Timer.{awaits_acknowledgment}
use Rattle.qa_reference.proofs.deadlines.some_awaits.Given as goal

abbrev pub invariant-loop-place : goal.invariant-loop-place
invariant-loop-place l = l.found ≡ list_any (awaits_acknowledgment l.header (history_of l.events)) (filter (is_of l.space) (packets (history_of (take l.place l.events))))

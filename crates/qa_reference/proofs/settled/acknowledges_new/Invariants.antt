use Rattle.std.proofs.Common.{◌≡◌, take, filter}
use Rattle.qa_base.specs.machine.Packets.{history_of, packets, is_some_packet, is_newly_acknowledged}
use Rattle.qa_reference.proofs.settled.acknowledges_new.Given as goal

abbrev pub invariant-loop-place : goal.invariant-loop-place
invariant-loop-place l = l.found ≡ is_some_packet (filter (is_newly_acknowledged l.event (history_of l.before)) (packets (history_of (take l.place l.before))))

use Rattle.std.proofs.Common.{◌≡◌, take, filter, map}
use Rattle.qa_base.specs.machine.Packets.{Packet, history_of, packets_of, least_of}
use Rattle.qa_base.specs.machine.Detection.{awaits_timer}
use Rattle.qa_reference.proofs.losses.first_awaiting.Given as goal

abbrev pub invariant-loop-place : goal.invariant-loop-place
invariant-loop-place l = l.least ≡ least_of (map (λ (p : Packet). p.time) (filter (awaits_timer (history_of l.events)) (packets_of (history_of (take l.place l.events)) l.space)))

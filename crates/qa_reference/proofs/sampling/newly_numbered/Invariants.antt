use Rattle.std.proofs.Common.{◌≡◌, take, filter, find}
use Rattle.std.specs.Prelude.{◌==◌}
use Rattle.qa_base.specs.machine.Packets.{Packet, history_of, packets, is_newly_acknowledged}
use Rattle.qa_reference.proofs.sampling.newly_numbered.Given as goal

abbrev pub invariant-loop-place : goal.invariant-loop-place
invariant-loop-place l = l.found ≡ find (λ (p : Packet). p.number == l.number) (filter (is_newly_acknowledged l.event (history_of l.before)) (packets (history_of (take l.place l.before))))

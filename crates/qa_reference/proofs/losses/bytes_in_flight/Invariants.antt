use Rattle.std.proofs.Common.{◌≡◌, ◌≤◌, ◌*◌, take, sum_by}
use Rattle.qa_base.specs.machine.Loss.{flight_size}
use Rattle.qa_base.specs.machine.Packets.{history_of, packets}
use Rattle.qa_reference.proofs.losses.bytes_in_flight.Given as goal

abbrev pub invariant-loop-place : goal.invariant-loop-place
invariant-loop-place l = record {
  value : l.bytes ≡ sum_by (flight_size l.header (history_of l.events)) (packets (history_of (take l.place l.events)));
  bound : l.bytes ≤ l.place * 18446744073709551615;
}

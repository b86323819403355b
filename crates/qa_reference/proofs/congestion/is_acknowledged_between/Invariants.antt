use Rattle.std.proofs.Common.{◌≡◌, take, length}
use Rattle.std.specs.List.{list_any}
use Rattle.qa_base.specs.machine.Packets.{Packet, history_of, packets}
use Rattle.std.specs.Prelude.{◌&&◌, nat_lt}
use Rattle.qa_base.specs.machine.Packets.{is_acknowledged}
use Rattle.qa_reference.proofs.congestion.is_acknowledged_between.Given as goal

abbrev pub invariant-loop-place : goal.invariant-loop-place
invariant-loop-place l = record {
  found : l.found ≡ list_any (λ (m : Packet). nat_lt l.fn.first.place m.place && nat_lt m.place l.fn.second.place && is_acknowledged (history_of l.events) m) (packets (history_of (take l.place l.events)));
  long : length (history_of (take l.place l.events)) ≡ l.place;
}

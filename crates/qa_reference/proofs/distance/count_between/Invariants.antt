use Rattle.std.proofs.Common.{◌≡◌, ◌≤◌, ◌&&◌, nat_le, nat_lt, take, count_by}
use Rattle.qa_base.specs.machine.Packets.{Packet, history_of, packets_of}
use Rattle.qa_reference.proofs.distance.count_between.Given as goal

abbrev pub invariant-loop-place : goal.invariant-loop-place
invariant-loop-place l = record {
  count : l.count ≡ count_by (λ (p : Packet). nat_lt l.number p.number && nat_le p.number l.largest) (packets_of (history_of (take l.place l.events)) l.space);
  bound : l.count ≤ l.place;
}

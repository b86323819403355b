use Rattle.std.proofs.Common.{◌≡◌, ◌≤◌, take}
use Rattle.qa_base.specs.machine.Packets.{history_of}
use Rattle.qa_base.specs.machine.Timer.{pto_count}
use Rattle.qa_reference.proofs.timer.pto_count.Given as goal

abbrev pub invariant-loop-place : goal.invariant-loop-place
invariant-loop-place l = record {
  value : l.count ≡ pto_count l.header (history_of (take l.place l.events));
  bound : l.count ≤ l.place;
}

use Rattle.std.proofs.Common.{◌≡◌, ◌≤◌, ◌*◌, take, sum_by}
use Rattle.qa_base.specs.machine.Packets.{history_of, packets, is_newly_acknowledged}
use Rattle.qa_reference.proofs.Reports.{passing_size}
use Rattle.qa_reference.proofs.reported.new_bytes.Given as goal

abbrev pub invariant-loop-place : goal.invariant-loop-place
invariant-loop-place l = record {
  value : l.bytes ≡ sum_by (passing_size (is_newly_acknowledged l.event (history_of l.before))) (packets (history_of (take l.place l.before)));
  bound : l.bytes ≤ l.place * 18446744073709551615;
}

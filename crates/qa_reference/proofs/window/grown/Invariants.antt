use Rattle.std.proofs.Common.{◌≡◌, ◌≤◌, ◌+◌, ◌*◌, ◌^◌, take, filter, fold}
use Rattle.qa_base.specs.machine.Packets.{history_of, packets}
use Rattle.qa_base.specs.machine.Packets.{is_newly_acknowledged}
use Rattle.qa_base.specs.machine.Reno.{moved, grows}
use Rattle.qa_base.specs.values.Constants.{minimum_window}
use Rattle.qa_base.specs.values.Limits.{max_packet_size}
use Rattle.qa_reference.proofs.window.grown.Given as goal

abbrev pub invariant-loop-place : goal.invariant-loop-place
invariant-loop-place l = record {
  value : l.reno ≡ fold (moved l.header.max_datagram_size) l.fn.reno (grows l.header (filter (is_newly_acknowledged l.event (history_of l.before)) (packets (history_of (take l.place l.before)))));
  low : minimum_window l.header.max_datagram_size ≤ l.reno.window;
  high : l.reno.window ≤ 2 ^ 60 + l.place * max_packet_size;
}

use Rattle.std.proofs.Common.{◌≡◌, ◌≤◌, take, length}
use Rattle.qa_reference.specs.Looks.{found_in}
use Rattle.qa_base.specs.machine.Packets.{history_of}
use Rattle.qa_reference.proofs.losses.owed_count.Given as goal

abbrev pub invariant-loop-place : goal.invariant-loop-place
invariant-loop-place l = record {
  count : l.count ≡ length (found_in (history_of l.events) l.look (history_of (take l.place l.events)));
  bound : l.count ≤ l.place;
}

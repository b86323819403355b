use Rattle.std.proofs.Common.{◌≡◌, ◌≤◌, ◌*◌, take}
use Rattle.qa_base.specs.machine.Packets.{history_of}
use Rattle.std.specs.Option.{ForSome}
use Rattle.qa_base.specs.machine.Permission.{probe_spent}
use Rattle.qa_reference.proofs.permission.probe_spent.Given as goal

abbrev pub invariant-loop-place : goal.invariant-loop-place
invariant-loop-place l = record {
  value : l.spent ≡ probe_spent (history_of (take l.place l.events));
  few : ForSome l.spent (λ n. n ≤ l.place * 18446744073709551615);
}

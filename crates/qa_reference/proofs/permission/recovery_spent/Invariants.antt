use Rattle.std.proofs.Common.{◌≡◌, ◌≤◌, take}
use Rattle.qa_base.specs.machine.Packets.{history_of}
use Rattle.std.specs.Option.{ForSome}
use Rattle.qa_base.specs.machine.Permission.{recovery_spent}
use Rattle.qa_base.specs.machine.Moments.{before_last}
use Rattle.qa_base.specs.machine.Reno.{reno}
use Rattle.qa_reference.specs.Estimated.{AreEstimates}
use Rattle.qa_reference.proofs.permission.recovery_spent.Given as goal

abbrev pub invariant-loop-place : goal.invariant-loop-place
invariant-loop-place l = record {
  estimates : AreEstimates l.header (history_of (take l.place l.events)) l.estimates;
  earlier : l.earlier ≡ reno l.header (before_last (history_of (take l.place l.events)));
  reno : l.reno ≡ reno l.header (history_of (take l.place l.events));
  value : l.spent ≡ recovery_spent l.header (history_of (take l.place l.events));
  few : ForSome l.spent (λ n. n ≤ l.place);
}

use Rattle.std.proofs.Common.{◌≡◌, take}
use Rattle.qa_base.specs.machine.Packets.{history_of}
use Rattle.qa_base.specs.machine.Window.{acknowledged_since_collapse}
use Rattle.qa_reference.specs.Estimated.{AreEstimates}
use Rattle.qa_reference.proofs.reported.acknowledged_since_collapse.Given as goal

abbrev pub invariant-loop-place : goal.invariant-loop-place
invariant-loop-place l = record {
  estimates : AreEstimates l.header (history_of (take l.place l.events)) l.estimates;
  sum : l.sum ≡ acknowledged_since_collapse l.header (history_of (take l.place l.events));
}

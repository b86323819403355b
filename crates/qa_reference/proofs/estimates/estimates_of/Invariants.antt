use Rattle.std.proofs.Common.{take}
use Rattle.qa_base.specs.machine.Packets.{history_of}
use Rattle.qa_reference.specs.Estimated.{AreEstimates}
use Rattle.qa_reference.proofs.estimates.estimates_of.Given as goal

abbrev pub invariant-loop-place : goal.invariant-loop-place
invariant-loop-place l = AreEstimates l.header (history_of (take l.place l.events)) l.estimates

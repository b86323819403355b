use Rattle.std.proofs.Common.{◌≡◌, take}
use Rattle.qa_base.specs.machine.Packets.{history_of}
use Rattle.qa_base.specs.machine.Timer.{last_eliciting}
use Rattle.qa_reference.proofs.deadlines.last_eliciting.Given as goal

abbrev pub invariant-loop-place : goal.invariant-loop-place
invariant-loop-place l = l.last ≡ last_eliciting (history_of (take l.place l.events)) l.space

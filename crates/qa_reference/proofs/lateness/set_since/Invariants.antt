use Rattle.std.proofs.Common.{◌≡◌, take}
use Rattle.qa_base.specs.machine.Packets.{history_of}
use Rattle.qa_base.specs.machine.Timer.{set_since}
use Rattle.qa_reference.proofs.lateness.set_since.Given as goal

abbrev pub invariant-loop-place : goal.invariant-loop-place
invariant-loop-place l = l.since ≡ set_since l.header (history_of (take l.place l.events))

use Rattle.std.proofs.Common.{◌≡◌, take}
use Rattle.qa_base.specs.machine.Packets.{history_of}
use Rattle.qa_reference.specs.Looks.{lost_in}
use Rattle.qa_reference.specs.Words.{last_sending}
use Rattle.qa_reference.proofs.window.last_lost.Given as goal

abbrev pub invariant-loop-place : goal.invariant-loop-place
invariant-loop-place l = l.last ≡ last_sending l.header (lost_in (history_of l.events) l.losses (history_of (take l.place l.events)))

use Rattle.std.proofs.Common.{◌≡◌, take}
use Rattle.std.specs.List.{list_any}
use Rattle.qa_base.specs.machine.Packets.{history_of}
use Rattle.qa_base.specs.machine.Detection.{are_ends}
use Rattle.qa_reference.specs.Looks.{lost_in}
use Rattle.qa_reference.proofs.congestion.has_end.Given as goal

abbrev pub invariant-loop-place : goal.invariant-loop-place
invariant-loop-place l = l.found ≡ list_any (are_ends l.header l.losses.look.rtt (history_of l.events) l.first) (lost_in (history_of l.events) l.losses (history_of (take l.place l.events)))

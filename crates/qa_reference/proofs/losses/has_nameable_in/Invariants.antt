use Rattle.std.proofs.Common.{◌≡◌, take}
use Rattle.std.specs.List.{list_any}
use Rattle.qa_base.specs.machine.Packets.{history_of}
use Rattle.qa_reference.specs.Looks.{nameable_in}
use Rattle.qa_base.specs.machine.Packets.{is_of}
use Rattle.qa_reference.proofs.losses.has_nameable_in.Given as goal

abbrev pub invariant-loop-place : goal.invariant-loop-place
invariant-loop-place l = l.found ≡ list_any (is_of l.space) (nameable_in (history_of l.events) l.look (history_of (take l.place l.events)))

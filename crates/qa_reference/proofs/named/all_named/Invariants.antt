use Rattle.std.proofs.Common.{◌≡◌, take}
use Rattle.std.specs.List.{list_all}
use Rattle.qa_base.specs.machine.Packets.{history_of}
use Rattle.qa_reference.specs.Looks.{numbers_found}
use Rattle.qa_base.specs.values.Events.{is_named}
use Rattle.qa_reference.proofs.named.all_named.Given as goal

abbrev pub invariant-loop-place : goal.invariant-loop-place
invariant-loop-place l = l.all ≡ list_all (is_named l.ranges) (numbers_found (history_of l.events) l.look (history_of (take l.place l.events)))

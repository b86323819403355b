use Rattle.std.proofs.Common.{◌≡◌, take}
use Rattle.std.specs.List.{list_any}
use Rattle.qa_base.specs.machine.Packets.{history_of, packets}
use Rattle.qa_reference.specs.Looks.{is_named_by}
use Rattle.qa_reference.proofs.declared.completes.Given as goal

abbrev pub invariant-loop-place : goal.invariant-loop-place
invariant-loop-place l = l.found ≡ list_any (is_named_by (history_of l.before) l.look l.event) (packets (history_of (take l.place l.before)))

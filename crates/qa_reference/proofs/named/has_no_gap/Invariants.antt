use Rattle.std.proofs.Common.{◌≡◌, take}
use Rattle.std.specs.List.{list_all}
use Rattle.qa_base.specs.machine.Packets.{history_of}
use Rattle.qa_reference.specs.Looks.{numbers_nameable}
use Rattle.qa_base.specs.machine.Numbers.{has_next}
use Rattle.qa_reference.proofs.named.has_no_gap.Given as goal

abbrev pub invariant-loop-place : goal.invariant-loop-place
invariant-loop-place l = l.all ≡ list_all (has_next (numbers_nameable (history_of l.events) l.look (history_of l.events)) l.range.0 l.range.1) (numbers_nameable (history_of l.events) l.look (history_of (take l.place l.events)))

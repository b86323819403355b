use Rattle.std.proofs.Common.{◌≡◌, take}
use Rattle.qa_base.specs.machine.Numbers.{has_all}
use Rattle.qa_base.specs.machine.Packets.{history_of}
use Rattle.qa_reference.specs.Looks.{numbers_nameable}
use Rattle.qa_reference.proofs.named.has_all.Given as goal

abbrev pub invariant-loop-range : goal.invariant-loop-range
invariant-loop-range l = l.all ≡ has_all (numbers_nameable (history_of l.events) l.look (history_of l.events)) (take l.range-index l.ranges)

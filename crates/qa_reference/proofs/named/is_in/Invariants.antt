use Rattle.std.proofs.Common.{◌≡◌, take}
use Rattle.qa_base.specs.machine.Packets.{history_of}
use Rattle.qa_reference.specs.Looks.{numbers_nameable}
use Rattle.qa_base.specs.machine.Numbers.{is_in}
use Rattle.qa_reference.proofs.named.is_in.Given as goal

abbrev pub invariant-loop-place : goal.invariant-loop-place
invariant-loop-place l = l.found ≡ is_in (numbers_nameable (history_of l.events) l.look (history_of (take l.place l.events))) l.wanted

use Rattle.std.proofs.Common.{◌≡◌, drop, max}
use Rattle.qa_base.specs.machine.Packets.{greatest}
use Rattle.qa_base.proofs.number.Spans.greatest.Given as goal

abbrev pub invariant-loop-span : goal.invariant-loop-span
invariant-loop-span l = max l.most (greatest (drop l.span-index l.span-items)) ≡ greatest l.span-items

use Rattle.std.proofs.Common.{◌≡◌, drop}
use Rattle.qa_base.specs.values.Events.{is_named}
use Rattle.qa_reference.proofs.event.is_named.Given as goal

abbrev pub invariant-loop-range : goal.invariant-loop-range
invariant-loop-range l = is_named (drop l.range-index l.ranges) l.number ≡ is_named l.ranges l.number

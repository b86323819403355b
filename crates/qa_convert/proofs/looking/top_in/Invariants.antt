use Rattle.std.proofs.Common.{◌≡◌, is_some, take}
use Rattle.qa_base.specs.values.Events.{has_ranges}
use Rattle.qa_convert.proofs.looking.top_in.Given as goal

abbrev pub invariant-loop-span : goal.invariant-loop-span
invariant-loop-span l = is_some l.top ≡ has_ranges (take l.span-index l.span-items)

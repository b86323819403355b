use Rattle.std.proofs.Common.{◌≡◌, ◌++◌, drop, map}
use Rattle.qaudit_c.specs.Telling.{told_allowance}
use Rattle.qaudit_c.proofs.resting.all_for_c.Given as goal

abbrev pub invariant-loop-item : goal.invariant-loop-item
invariant-loop-item l =
    l.all.items ++ map told_allowance (drop l.item-index l.items) ≡ map told_allowance l.items

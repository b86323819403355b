use Rattle.std.proofs.Common.{◌≡◌, ◌++◌, take}
use Rattle.std.specs.Prelude.{flat_map}
use Rattle.qa_why.specs.Hidden.{unit_escape}
use Rattle.qa_why.proofs.hidden.push_units.Given as goal

abbrev pub invariant-loop-unit : goal.invariant-loop-unit
invariant-loop-unit l = l.out.items ≡ l.fn.out.items ++ flat_map unit_escape (take l.unit-index l.units)

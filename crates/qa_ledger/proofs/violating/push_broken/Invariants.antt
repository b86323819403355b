use Rattle.std.proofs.Common.{◌≡◌, ◌++◌, take}
use Rattle.qa_base.specs.machine.Violations.{rules_of}
use Rattle.qa_ledger.proofs.violating.push_broken.Given as goal

abbrev pub invariant-loop-is_broken : goal.invariant-loop-is_broken
invariant-loop-is_broken l = l.found.items ≡ l.fn.found.items ++ rules_of (take l.is_broken-index l.broken)

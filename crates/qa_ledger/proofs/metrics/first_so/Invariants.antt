use Rattle.std.proofs.Common.{◌≡◌, drop}
use Rattle.qa_base.specs.machine.Rules.{first_of}
use Rattle.qa_ledger.proofs.metrics.first_so.Given as goal

abbrev pub invariant-loop-is_so : goal.invariant-loop-is_so
invariant-loop-is_so l = first_of (drop l.is_so-index l.tests) ≡ first_of l.tests

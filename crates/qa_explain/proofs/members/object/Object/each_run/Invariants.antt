use Rattle.std.proofs.Common.{◌≡◌, ◌++◌, drop}
use Rattle.qa_explain.specs.members.Object.{each_run}
use Rattle.qa_explain.proofs.members.object.Object.each_run.Given as goal

abbrev pub invariant-loop-run : goal.invariant-loop-run
invariant-loop-run l = l.self ++ each_run (drop l.run-index l.runs) ≡ l.initial.self ++ each_run l.runs

use Rattle.std.proofs.Common.{◌≡◌, ◌++◌, drop}
use Rattle.std.specs.Prelude.{string_bytes}
use Rattle.qa_explain.specs.text.Runs.{each_run}
use Rattle.qa_explain.proofs.text.runs.push_each_run.Given as goal

abbrev pub invariant-loop-run : goal.invariant-loop-run
invariant-loop-run l = string_bytes l.out ++ each_run (drop l.run-index l.runs) ≡ string_bytes l.initial.out ++ each_run l.runs

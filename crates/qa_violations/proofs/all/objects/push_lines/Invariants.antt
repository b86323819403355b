use Rattle.std.proofs.Common.{◌≡◌, ◌++◌, drop}
use Rattle.qa_violations.specs.all.Objects.{lines_of}
use Rattle.qa_violations.proofs.all.objects.push_lines.Given as goal

abbrev pub invariant-loop-finding : goal.invariant-loop-finding
invariant-loop-finding l = l.object ++ lines_of l.rule (drop l.finding-index l.named) ≡ l.initial.object ++ lines_of l.rule l.named

use Rattle.std.proofs.Common.{ℕ, List}
use Rattle.qa_logs.specs.Whole.{FeedsEach}
use Rattle.qa_log_lines.proofs.lines.read.Given as goal

abbrev pub invariant-parts : goal.invariant-parts
invariant-parts g l =
    (fed : List (List ℕ)) × FeedsEach g.T.Reading.feeds l.fn.reading fed l.reading

use Rattle.std.proofs.Common.{◌≡◌, ◌≤◌, ◌-◌, length, drop}
use Rattle.qa_packet_numbers.specs.Runs.{inserted}
use Rattle.qa_packet_numbers.proofs.ranges.reach.Given as goal

-- what was passed is in the run
abbrev pub invariant-loop-end : goal.invariant-loop-end
invariant-loop-end l = record {
  from : l.first ≤ l.end;
  within : l.end ≤ length l.runs;
  low : l.run.0 ≤ l.fn.span.0;
  left : inserted l.run (drop l.end l.runs) ≡ inserted l.fn.span (drop l.first l.runs);
}

abbrev pub decreases-loop-end : goal.decreases-loop-end
decreases-loop-end l = length l.runs - l.end

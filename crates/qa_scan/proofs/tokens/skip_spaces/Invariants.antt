use Rattle.std.proofs.Common.{◌-◌, ◌≤◌, [], length, drop}
use Rattle.qa_scan.specs.Lexes.{Lexes}
use Rattle.qa_scan.proofs.tokens.skip_spaces.Given as goal

abbrev pub invariant-loop-i : goal.invariant-loop-i
invariant-loop-i l = record {
  within : l.i ≤ length l.bytes;
  skipped : Lexes l.bytes (drop l.i l.bytes) [];
}

abbrev pub decreases-loop-i : goal.decreases-loop-i
decreases-loop-i l = length l.bytes - l.i

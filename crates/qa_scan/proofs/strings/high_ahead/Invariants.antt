use Rattle.std.proofs.Common.{◌-◌, ◌≤◌, ◌≡◌, true, length, take}
use Rattle.std.specs.List.{list_all}
use Rattle.qa_scan.specs.Strings.{is_high}
use Rattle.qa_scan.proofs.strings.high_ahead.Given as goal

abbrev pub invariant-loop-i : goal.invariant-loop-i
invariant-loop-i l = record {
  within : l.i ≤ length l.bytes;
  high : list_all is_high (take l.i l.bytes) ≡ true;
}

abbrev pub decreases-loop-i : goal.decreases-loop-i
decreases-loop-i l = length l.bytes - l.i

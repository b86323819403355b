use Rattle.std.proofs.Common.{◌-◌, ◌≡◌, ◌<◌, ◌≤◌, ◌^◌, take, decimal}
use Rattle.qa_scan.proofs.digits.any_digits.Given as goal

abbrev pub invariant-loop-i : goal.invariant-loop-i
invariant-loop-i l = record {
  within : l.i ≤ l.end;
  some : 0 < l.n;
  small : l.n < 10 ^ l.i;
  is_text : take l.i l.bytes ≡ decimal l.n;
}

abbrev pub decreases-loop-i : goal.decreases-loop-i
decreases-loop-i l = l.end - l.i

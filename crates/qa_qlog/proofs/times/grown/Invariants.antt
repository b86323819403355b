use Rattle.std.proofs.Common.{◌≡◌, ◌≤◌, ◌*◌, ◌^◌, ℕ, min}
use Rattle.qa_qlog.specs.Times.{cap}
use Rattle.qa_qlog.proofs.times.grown.Given as goal

abbrev pub invariant-loop-i : goal.invariant-loop-i
invariant-loop-i l = record {
  small : l.value ≤ cap;
  is : (n : ℕ) → l.start ≡ min n cap → l.value ≡ min (n * 10 ^ l._i) cap;
}

use Rattle.std.proofs.Common.{◌≡◌, ◌≤◌, ℕ, min, take}
use Rattle.std.specs.Str.Parse.{digits_value_after}
use Rattle.qa_qlog.specs.Times.{cap}
use Rattle.qa_qlog.proofs.times.value_after.Given as goal

abbrev pub invariant-loop-digit : goal.invariant-loop-digit
invariant-loop-digit l = record {
  small : l.value ≤ cap;
  is : (n : ℕ) → l.start ≡ min n cap → l.value ≡ min (digits_value_after 10 n (take l.digit-index l.digits)) cap;
}

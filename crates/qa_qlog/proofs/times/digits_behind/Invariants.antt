use Rattle.std.proofs.Common.{◌≡◌, take}
use Rattle.std.specs.Str.Parse.{AllDigits, digits_value_after}
use Rattle.qa_qlog.proofs.times.digits_behind.Given as goal

abbrev pub invariant-loop-digit : goal.invariant-loop-digit
invariant-loop-digit l = record {
  digits : AllDigits 10 (take l.digit-index l.digits);
  is : l.value ≡ digits_value_after 10 l.start (take l.digit-index l.digits);
}

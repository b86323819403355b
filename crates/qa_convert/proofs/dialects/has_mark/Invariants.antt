use Rattle.std.proofs.Common.{◌≡◌, drop}
use Rattle.qa_convert.specs.Dialects.{has_mark}
use Rattle.qa_convert.proofs.dialects.has_mark.Given as goal

abbrev pub invariant-loop-at : goal.invariant-loop-at
invariant-loop-at l = has_mark l.mark (drop l.at l.text) ≡ has_mark l.mark l.fn.text

use Rattle.std.proofs.Common.{◌≡◌, false, take}
use Rattle.qa_convert.specs.Dialects.{is_said}
use Rattle.qa_convert.proofs.dialects.is_said.Given as goal

abbrev pub invariant-loop-text : goal.invariant-loop-text
invariant-loop-text l = is_said (take l.text-index l.said) l.mark ≡ false

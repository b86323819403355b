use Rattle.std.proofs.Common.{◌≡◌, take}
use Rattle.qa_convert.proofs.kept.are_same.Given as goal

abbrev pub invariant-loop-index : goal.invariant-loop-index
invariant-loop-index l = take l.index l.these ≡ take l.index l.those

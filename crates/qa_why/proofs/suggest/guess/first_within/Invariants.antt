use Rattle.std.proofs.Common.{◌≡◌, drop}
use Rattle.qa_why.specs.suggest.Near.{first_within}
use Rattle.qa_why.proofs.suggest.guess.first_within.Given as goal

abbrev pub invariant-loop-key : goal.invariant-loop-key
invariant-loop-key l = first_within l.most l.name (drop l.key-index l.keys) ≡ first_within l.most l.name l.keys

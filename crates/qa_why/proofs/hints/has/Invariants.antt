use Rattle.std.proofs.Common.{◌≡◌, drop}
use Rattle.qa_why.specs.Hints as text
use Rattle.qa_why.proofs.hints.has.Given as goal

abbrev pub invariant-loop-at : goal.invariant-loop-at
invariant-loop-at l = text.has (drop l.at l.line) l.part ≡ text.has l.line l.part

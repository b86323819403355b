use Rattle.std.specs.Prelude.{ℕ, List}
use Rattle.qa_fast_reader.specs.declared.found.Found.{Found}
use Rattle.qa_fast_reader.specs.Found.{EndsIf}
use Rattle.qa_fast_reader.proofs.members.closes_behind.Given as goal

abbrev pub invariant-loop-i : goal.invariant-loop-i
invariant-loop-i l = (f : Found) (whole : List ℕ) → EndsIf f whole l.bytes → EndsIf f whole l.rest

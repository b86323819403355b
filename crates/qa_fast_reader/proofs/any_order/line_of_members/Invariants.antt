use Rattle.std.specs.Prelude.{ℕ, List}
use Rattle.qa_fast_reader.specs.Found.{Follows, nothing}
use Rattle.qa_fast_reader.proofs.any_order.line_of_members.Given as goal

abbrev pub invariant-loop-i : goal.invariant-loop-i
invariant-loop-i l = (whole : List ℕ) → Follows nothing whole l.fn.bytes → Follows l.found whole l.rest

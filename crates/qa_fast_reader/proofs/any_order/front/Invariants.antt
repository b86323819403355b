use Rattle.qa_fast_reader.specs.Found.{Follows, nothing}
use Rattle.qa_fast_reader.proofs.any_order.front.Given as goal

abbrev pub invariant-loop-i : goal.invariant-loop-i
invariant-loop-i l = Follows nothing l.bytes l.rest

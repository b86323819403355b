use Rattle.std.proofs.Common.{length}
use Rattle.qa_convert.proofs.flights.take_span.Given as goal

abbrev pub decreases-loop-number : goal.decreases-loop-number
decreases-loop-number l = length l.flight

use Rattle.std.proofs.Common.{◌≡◌, length}
use Rattle.std.specs.Prelude.{filter, not}
use Rattle.qa_convert.specs.Flights.{is_within}
use Rattle.qa_convert.proofs.flight.Flight.take_named.Given as goal

abbrev pub invariant-loop-number : goal.invariant-loop-number
invariant-loop-number l = filter (λ e. not (is_within l.span e.0)) l.self ≡ filter (λ e. not (is_within l.span e.0)) l.initial.self

abbrev pub decreases-loop-number : goal.decreases-loop-number
decreases-loop-number l = length l.self

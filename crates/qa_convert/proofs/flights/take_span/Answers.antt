use Rattle.std.proofs.Common.{◌∙◌, sym}
use Rattle.qa_convert.specs.Flights.{is_within}
use Rattle.qa_convert.proofs.Flown.{fewer_without}
use Rattle.qa_convert.proofs.flights.take_span.Goals as goal

pub loop-number-smaller : goal.loop-number-smaller
loop-number-smaller c =
    rw c.take.ensures.left
    (fewer_without (is_within c.args.span) c.loop-number.flight (c.in-Some.number, c.in-Some.packet) (sym c.first_named.ensures ∙ c.in-Some.is))

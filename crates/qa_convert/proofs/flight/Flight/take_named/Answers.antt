use Rattle.std.proofs.Common.{◌∙◌, sym}
use Rattle.qa_convert.specs.Flights.{is_within}
use Rattle.qa_convert.proofs.Flown.{all_left, fewer_without, found_passes, left_without}
use Rattle.qa_convert.proofs.flight.Flight.take_named.Goals as goal

pub loop-number-smaller : goal.loop-number-smaller
loop-number-smaller c =
    rw c.take.ensures.left
    (fewer_without (is_within c.args.span) c.loop-number.self (c.in-Some.number, c.in-Some.field-0-1) (sym c.first_named.ensures ∙ c.in-Some.is))

pub loop-number-preserved : goal.loop-number-preserved
loop-number-preserved c =
    let named = found_passes (is_within c.args.span) c.loop-number.self (c.in-Some.number, c.in-Some.field-0-1) (sym c.first_named.ensures ∙ c.in-Some.is) in
    rw c.take.ensures.left (left_without (is_within c.args.span) c.in-Some.number c.loop-number.self named ∙ c.loop-number.invariant)

pub returns : goal.returns
returns c = all_left (is_within c.args.span) c.loop-number.self (sym c.in_default.is ∙ c.first_named.ensures) ∙ c.loop-number.invariant

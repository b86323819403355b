use Rattle.std.proofs.Common.{◌∙◌, sym, arith}
use Rattle.qa_convert.proofs.Flown.{sized_without, taken_bytes}
use Rattle.qa_convert.proofs.flight.Flight.take.Goals as goal

pub overflow_sub-self : goal.overflow_sub-self
overflow_sub-self c =
    let es = c.self.inside.packets.entries in
    let sum = taken_bytes c.args.number es c.in-Some.taken (sym c.remove.ensures.value ∙ c.in-Some.is) in
    omega (arith, sum, c.self.invariant.0, c.from.ensures)

pub invariant_of-self-in-Some : goal.invariant_of-self-in-Some
invariant_of-self-in-Some c =
    let es = c.self.inside.packets.entries in
    let sum = taken_bytes c.args.number es c.in-Some.taken (sym c.remove.ensures.value ∙ c.in-Some.is) in
    rw c.remove.ensures.entries (omega (arith, sum, c.self.invariant.0, c.from.ensures), sized_without c.args.number es c.self.invariant.1)

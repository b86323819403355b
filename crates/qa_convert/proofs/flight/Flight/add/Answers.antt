use Rattle.std.proofs.Common.{arith}
use Rattle.qa_convert.proofs.Flown.{bytes_with, sized_with}
use Rattle.qa_convert.proofs.flight.Flight.add.Goals as goal

pub invariant_of-self-2 : goal.invariant_of-self-2
invariant_of-self-2 c =
    let es = c.self.inside.packets.entries in
    let s = c.args.packet in
    let sum = bytes_with c.args.number s es (rw (← c.self.view_is) at c.take.ensures.gone) in
    rw c.in_ok-insert.ensures.entries (omega (arith, sum, c.in-Some.ensures.1, c.self.invariant.0, c.from.ensures), sized_with c.args.number s es c.requires c.self.invariant.1)

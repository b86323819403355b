use Rattle.std.proofs.Common.{◌<◌, length, refl, arith}
use Rattle.qa_sent_packets.proofs.Rising.{begins_below}
use Rattle.qa_sent_packets.proofs.unacknowledged.is_first_below.Goals as goal

pub returns-in-Some : goal.returns-in-Some
returns-in-Some c = λ is.
    let some : 0 < length c.args.recent.now.items = (let within = c.in-Some.ensures.variant.0 refl in let long = c.args.recent.now.ok.0 in omega (arith, within, long)) in
    begins_below c.args.number c.args.recent.now.items c.in-Some.field-0.now some c.in-Some.ensures.lookup is

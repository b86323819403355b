use Rattle.std.proofs.Common.{ap}
use Rattle.qa_base.specs.machine.Detection.{is_far_below}
use Rattle.qa_base.specs.machine.Packets.{Packet, history_of}
use Rattle.qa_reference.proofs.losses.is_far_below.Goals as goal

pub returns : goal.returns
returns c =
    let h = history_of c.args.events.now in
    rw (c.distance_below.ensures, c.get-number.ensures.value, c.options-options.ensures.value) (ap (λ (p : Packet). is_far_below c.args.header.now h c.args.largest p) c.packet.view_is)

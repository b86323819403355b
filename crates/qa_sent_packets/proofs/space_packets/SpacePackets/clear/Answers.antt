use Rattle.std.proofs.Common.{refl}
use Rattle.qa_sent_packets.proofs.space_packets.SpacePackets.clear.Goals as goal

pub returns : goal.returns
returns c = record {
  entries = c.clear.ensures.empty;
  next = refl;
  awaiting = refl;
  in_flight = refl;
}

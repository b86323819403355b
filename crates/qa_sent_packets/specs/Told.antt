-- A packet of a history, as it is kept.
use Rattle.std.specs.Prelude.{Bool, true, false, List}
use Rattle.qa_base.specs.declared.event.Event.{Event}
use Rattle.qa_base.specs.machine.Loss.{is_owed}
use Rattle.qa_base.specs.machine.Packets.{Packet, is_acknowledged, is_discarded, is_declared_lost}
use Rattle.qa_base.specs.values.Settings.{Settings}
use Rattle.qa_sent_packets.specs.declared.fate.Fate.{Fate}
use Rattle.qa_sent_packets.specs.declared.fate.Fate.TheVariants.{Open, Owed, DeclaredLost}
use Rattle.qa_sent_packets.specs.declared.fate.Fate.TheVariants.{Acknowledged, Discarded}
use Rattle.qa_sent_packets.specs.declared.packet.SentPacket.{SentPacket}

-- by whether it was acknowledged, declared lost and found lost, and its space discarded
abbrev pub fate_by : (covered lost owed gone : Bool) → Fate
fate_by true lost owed gone = Acknowledged
fate_by false lost owed true = Discarded
fate_by false true owed false = DeclaredLost
fate_by false false true false = Owed
fate_by false false false false = Open

-- what became of a packet
abbrev pub fate : Settings → List Event → Packet → Fate
fate c h p =
    fate_by (is_acknowledged h p) (is_declared_lost h p) (is_owed c h p) (is_discarded h p.space)

-- the packet as it is kept
abbrev pub sent_of : Settings → List Event → Packet → SentPacket
sent_of c h p = record {
  time = p.time;
  place = p.place;
  space = p.space;
  number = p.number;
  size = p.size;
  eliciting = p.eliciting;
  in_flight = p.in_flight;
  fate = fate c h p;
}

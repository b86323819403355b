-- Which events come next, and which take memory.
use Rattle.std.specs.Prelude.{◌≡◌, ℕ, Bool, ◌||◌, true, false, List, ◌∷◌, length}
use Rattle.qa_base.specs.declared.event.Event.{Event}
use Rattle.qa_base.specs.declared.event.Event.TheVariants.{Ack}
use Rattle.qa_base.specs.declared.event.SentPacket.{SentPacket as PacketOfEvent}
use Rattle.qa_base.specs.declared.space.Permission.{Permission}
use Rattle.qa_base.specs.values.Events.{is_sent}
use Rattle.qa_base.specs.values.Settings.{Settings}
use Rattle.qa_sender.specs.connection.Known.{IsProperToleratedRun}
use Rattle.qa_sender.specs.Standing.{StandsFor}
use Rattle.qa_sent_packets.specs.Held.{Held}
use Rattle.qa_sent_packets.specs.declared.packet.SentPacket.{SentPacket}

-- the event comes next in some tolerated run of so many events, after which the packets are kept
pub record IsNext (events : ℕ) (held : Held) (e : Event) : Type 0 where
  pub header : Settings
  pub history : List Event
  pub counted : events ≡ length history
  pub run : IsProperToleratedRun header (e ∷ history)
  pub stands : StandsFor held header history

-- what the event says that sends a packet by this leave
abbrev pub as_sent : SentPacket → Permission → PacketOfEvent
as_sent packet permission = record {
  time = packet.time;
  space = packet.space;
  number = packet.number;
  size = packet.size;
  eliciting = packet.eliciting;
  in_flight = packet.in_flight;
  permission = permission;
}

abbrev pub is_ack : Event → Bool
is_ack (Ack ack) = true
is_ack e = false

-- admitting the event takes memory: it sends a packet, or it is an acknowledgment
abbrev pub takes_memory : Event → Bool
takes_memory e = is_sent e || is_ack e

-- What the packets that are kept stand for: a history.
use Rattle.std.specs.Prelude.{◌≡◌, ◌&&◌, ◌||◌, Bool, true, false, List, ◌++◌, filter, length, map}
use Rattle.std.specs.Prelude.{reverse}
use Rattle.std.specs.List.{AllByRecursion}
use Rattle.qa_base.specs.declared.event.Event.{Event}
use Rattle.qa_base.specs.declared.space.Space.{Space}
use Rattle.qa_base.specs.machine.Loss.{is_open, is_owed}
use Rattle.qa_base.specs.machine.Packets.{Packet, is_of, packets}
use Rattle.qa_base.specs.values.PerSpace.{of_space}
use Rattle.qa_base.specs.values.Settings.{Settings}
use Rattle.qa_sent_packets.specs.Held.{Held}
use Rattle.qa_sent_packets.specs.Told.{sent_of}
use Rattle.qa_sent_packets.specs.declared.packet.SentPacket.{SentPacket}

-- the packet is not owed, and where it is open it is neither ack-eliciting nor in flight
pub record IsShed (c : Settings) (h : List Event) (p : Packet) : Type 0 where
  pub owed : is_owed c h p ≡ false
  pub bare : is_open c h p ≡ true → (p.eliciting || p.in_flight) ≡ false

-- of the space, and open
abbrev pub is_open_of : Settings → List Event → Space → Packet → Bool
is_open_of c h s p = is_of s p && is_open c h p

-- the packets of the history in the order of sending: those that left the queue, of which the open
-- ones were set aside in their spaces, and the rest, which is kept
pub record StandsFor (held : Held) (c : Settings) (h : List Event) : Type 0 where
  pub gone : List Packet
  pub kept : List Packet
  pub parts : reverse (packets h) ≡ gone ++ kept
  pub place : held.dropped ≡ length gone
  pub packets_are : held.packets ≡ map (sent_of c h) kept
  pub shed : AllByRecursion (IsShed c h) gone
  pub strays_are : (s : Space) → of_space s held.strays
      ≡ map (sent_of c h) (filter (is_open_of c h s) gone)

-- each packet that is held, replaced by what a step makes of it
abbrev pub replaced : (SentPacket → SentPacket) → Held → Held
replaced step held = record {
  dropped = held.dropped;
  packets = map step held.packets;
  strays = held.strays;
}

-- Packets that are held, those as owed that are lost by the last event of a history.
use Rattle.std.specs.Prelude.{◌≡◌, false, List, ◌++◌, map, reverse}
use Rattle.std.specs.List.{AllByRecursion}
use Rattle.qa_base.specs.declared.event.Event.{Event}
use Rattle.qa_base.specs.machine.Packets.{Packet, packets, is_acknowledged as covers}
use Rattle.qa_base.specs.machine.Loss.{is_owed as owes}
use Rattle.qa_base.specs.values.Settings.{Settings}
use Rattle.qa_base.specs.history.Declared.{is_lost_now}
use Rattle.qa_sent_packets.specs.Fates.{is_acknowledged, is_owed}
use Rattle.qa_sent_packets.specs.Held.{Held}
use Rattle.qa_sent_packets.specs.declared.fate.Fate.{Fate}
use Rattle.qa_sent_packets.specs.declared.packet.SentPacket.{SentPacket}

-- the packet as it is kept, with this fate
abbrev pub told : Fate → Packet → SentPacket
told f p = record {
  time = p.time;
  place = p.place;
  space = p.space;
  number = p.number;
  size = p.size;
  eliciting = p.eliciting;
  in_flight = p.in_flight;
  fate = f;
}

-- the packets of the history in the order of sending: those that were dropped, none of which is
-- lost by its last event, and the rest, each held as owed where it is, and as acknowledged where it
-- is
pub record HoldsLosses (held : Held) (c : Settings) (h : List Event) : Type 0 where
  pub gone : List Packet
  pub kept : List Packet
  pub fates : Packet → Fate
  pub parts : reverse (packets h) ≡ gone ++ kept
  pub packets_are : held.packets ≡ map (λ p. told (fates p) p) kept
  pub owed : (p : Packet) → is_owed (fates p) ≡ is_lost_now c h p
  pub covered : (p : Packet) → is_acknowledged (fates p) ≡ covers h p
  pub none : AllByRecursion (λ p. is_lost_now c h p ≡ false) gone

-- the last event loses the packets that it finds lost, and no others: it is no Lost line
abbrev pub LosesWhatIsOwed : Settings → List Event → Type 0
LosesWhatIsOwed c h = (p : Packet) → is_lost_now c h p ≡ owes c h p

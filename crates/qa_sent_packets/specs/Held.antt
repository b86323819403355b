-- What is kept of the packets, and beside them for each space.
use Rattle.std.specs.Prelude.{◌≡◌, ◌≤◌, ◌<◌, ◌-◌, ℕ, suc, ◌+◌, ◌⊎◌, ◌&&◌, ◌||◌, Bool, not, nat_le}
use Rattle.std.specs.Prelude.{nat_lt, true, false, List, [], ◌∷◌, count_by, drop, length, sum_by}
use Rattle.std.specs.Prelude.{min, take, if◌then◌else◌}
use Rattle.std.specs.List.{AllByRecursion}
use Rattle.qa_base.specs.declared.space.Space.{Space}
use Rattle.qa_base.specs.declared.space.Space.TheVariants.{Initial, Handshake, App}
use Rattle.qa_base.specs.values.Events.{is_space}
use Rattle.qa_base.specs.values.Limits.{max_lines, max_packet_size}
use Rattle.qa_base.specs.values.PerSpace.{of_space}
use Rattle.qa_sent_packets.specs.Fates.{flight_bytes_in, is_awaiting, is_flying, is_owed}
use Rattle.qa_sent_packets.specs.Fates.{is_waiting}
use Rattle.qa_sent_packets.specs.declared.space_packets.SpacePackets.{SpacePackets}
use Rattle.qa_base.specs.declared.per_space.PerSpace.{PerSpace}
use Rattle.qa_sent_packets.specs.declared.packet.SentPacket.{SentPacket}
use Rattle.qa_sent_packets.specs.declared.packets.Losses.{Losses}

-- how many packets were dropped or set aside, those behind them in the order of sending, and those
-- of each space that were set aside, in the order of their numbers
pub record Held : Type 0 where
  pub dropped : ℕ
  pub packets : List SentPacket
  pub strays : PerSpace (List SentPacket)

-- none were set aside
abbrev pub no_strays : PerSpace (List SentPacket)
no_strays = record { initial = []; handshake = []; app = [] }

-- so many were
abbrev pub aside_count : PerSpace (List SentPacket) → ℕ
aside_count strays = length strays.initial + (length strays.handshake + length strays.app)

-- ---- the order of sending

-- q was sent before p
pub record IsBefore (p q : SentPacket) : Type 0 where
  pub time : q.time ≤ p.time
  pub place : q.place < p.place
  pub number : is_space p.space q.space ≡ true → q.number < p.number

-- whether it was
abbrev pub is_before : SentPacket → SentPacket → Bool
is_before p q =
    nat_lt q.place p.place
    && (nat_le q.time p.time && (not (is_space p.space q.space) || nat_lt q.number p.number))

-- each packet was sent before those behind it
abbrev pub AreOrdered : List SentPacket → Type 0
AreOrdered [] = Unit {0}
AreOrdered (q ∷ ps) = AllByRecursion (λ p. IsBefore p q) ps × AreOrdered ps

-- ---- beside them for a space

-- the numbers of the waiting packets with their places, of which the first is the given one
abbrev pub unacknowledged_in : Space → ℕ → List SentPacket → List (ℕ × ℕ)
unacknowledged_in s place [] = []
unacknowledged_in s place (p ∷ ps) =
    if is_waiting s p then (p.number, place)
    ∷ unacknowledged_in s (suc place) ps else unacknowledged_in s (suc place) ps

-- none of these is of the space, open and in flight
abbrev pub NoneFlies : Space → List SentPacket → Type 0
NoneFlies s ps = AllByRecursion (λ p. is_flying s p ≡ false) ps

-- the first of these is, or none is
abbrev pub FirstFlies : Space → List SentPacket → Type 0
FirstFlies s [] = Unit {0}
FirstFlies s (p ∷ ps) = (is_flying s p ≡ true) ⊎ NoneFlies s (p ∷ ps)

-- the map and the sums of a space are those of the packets, of which the first has this place
pub record IsIndexed (s : Space) (dropped : ℕ) (packets : List SentPacket)
    (space_packets : SpacePackets) : Type 0 where
  pub entries : space_packets.unacknowledged.entries ≡ unacknowledged_in s dropped packets
  pub in_flight : space_packets.in_flight ≡ sum_by (flight_bytes_in s) packets
  pub awaiting : space_packets.awaiting ≡ count_by (is_awaiting s) packets

-- before a place among them none flies
pub record IsBehind (s : Space) (dropped : ℕ) (packets : List SentPacket) (next : ℕ) : Type 0 where
  pub low : dropped ≤ next
  pub high : next ≤ dropped + length packets
  pub none : NoneFlies s (take (next - dropped) packets)

-- and the packet there flies, or none does
pub record IsSpacePackets (s : Space) (dropped : ℕ) (packets : List SentPacket)
    (space_packets : SpacePackets) : Type 0 where
  pub indexed : IsIndexed s dropped packets space_packets
  pub behind : IsBehind s dropped packets space_packets.next
  pub first : FirstFlies s (drop (space_packets.next - dropped) packets)

-- ---- what is owed

-- the packets that are owed are of one space, so many, and within two places
pub record AreLosses (dropped : ℕ) (packets : List SentPacket) (losses : Losses) : Type 0 where
  pub count : losses.count ≡ count_by (λ p. is_owed p.fate) packets
  pub of_space : AllByRecursion
      (λ p. is_owed p.fate ≡ true → is_space losses.space p.space ≡ true) packets
  pub before : AllByRecursion (λ p. is_owed p.fate ≡ false) (take (losses.from - dropped) packets)
  pub behind : AllByRecursion (λ p. is_owed p.fate ≡ false) (drop (losses.to - dropped) packets)

-- ---- all of it

-- each packet has a higher number than those of its space that were set aside
abbrev pub AreAbove : PerSpace (List SentPacket) → List SentPacket → Type 0
AreAbove strays ps =
    AllByRecursion (λ p. AllByRecursion (λ q. q.number < p.number) (of_space p.space strays)) ps

pub record IsSound (dropped : ℕ) (packets : List SentPacket) (losses : Losses)
    (by_space : PerSpace SpacePackets) (strays : PerSpace (List SentPacket)) : Type 0 where
  pub initial : IsSpacePackets Initial dropped packets by_space.initial
  pub handshake : IsSpacePackets Handshake dropped packets by_space.handshake
  pub app : IsSpacePackets App dropped packets by_space.app
  pub owed : AreLosses dropped packets losses
  pub ordered : AreOrdered packets
  pub sizes : AllByRecursion (λ (p : SentPacket). p.size ≤ max_packet_size) packets
  pub few : dropped + length packets ≤ max_lines
  pub above : AreAbove strays packets

-- ---- memory

-- for so many packets the list of what acknowledgments find keeps its room
abbrev pub kept_room : ℕ
kept_room = 1024

-- for how many packets an acknowledgment takes room, where so many at most are open up to its
-- greatest number, and it names so many
abbrev pub wanted_room : (most named : ℕ) → ℕ
wanted_room most named = if nat_lt kept_room most then min most named else most

-- what is kept of room for n packets
abbrev pub room_kept : ℕ → ℕ
room_kept n = if nat_lt kept_room n then 0 else n

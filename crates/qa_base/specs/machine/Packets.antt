-- Histories, the packets that were sent in them, and what became of each.
--
-- A history lists its latest event first: one more event is `e ∷ h`, and what stood before an event
-- is the rest of the list behind it.
use Rattle.std.specs.Prelude.{ℕ, ◌&&◌, ◌||◌, not, nat_lt, min, max, Bool, true, false, unwrap_or}
use Rattle.std.specs.Prelude.{flat_map, List, [], ◌∷◌, ◌++◌, fold, length, filter, Option, Some}
use Rattle.std.specs.Prelude.{None, if◌then◌else◌}
use Rattle.std.specs.List.{list_any}
use Rattle.qa_base.specs.declared.event.Event.{Event}
use Rattle.qa_base.specs.declared.event.Event.TheVariants.{Sent, Ack}
use Rattle.qa_base.specs.declared.event.SentPacket.{SentPacket}
use Rattle.qa_base.specs.declared.space.Space.{Space}
use Rattle.qa_base.specs.declared.space.Permission.{Permission}
use Rattle.qa_base.specs.values.Events.{is_space, acknowledges, declares_lost, discards}

-- the history of events that stand in order
abbrev pub history_of : List Event → List Event
history_of events = fold (λ h e. e ∷ h) [] events

-- ---- packets

-- a packet, as the event tells it that sent it (RFC 9002, A.1), and how many events stand before
-- that one
pub record Packet : Type 0 where
  pub place : ℕ
  pub time : ℕ
  pub space : Space
  pub number : ℕ
  pub size : ℕ
  pub eliciting : Bool
  pub in_flight : Bool
  pub permission : Permission

-- the packet that an event tells, which stands after so many others
abbrev pub packet_at : ℕ → SentPacket → Packet
packet_at place packet = record {
  place = place;
  time = packet.time;
  space = packet.space;
  number = packet.number;
  size = packet.size;
  eliciting = packet.eliciting;
  in_flight = packet.in_flight;
  permission = packet.permission;
}

-- the packet that the event sent
abbrev pub packet_of : ℕ → Event → List Packet
packet_of place (Sent packet) = packet_at place packet ∷ []
packet_of place _ = []

-- the packets that were sent, the latest first
abbrev pub packets : List Event → List Packet
packets [] = []
packets (e ∷ before) = packet_of (length before) e ++ packets before

abbrev pub is_of : Space → Packet → Bool
is_of s p = is_space s p.space

-- those of one packet number space
abbrev pub packets_of : List Event → Space → List Packet
packets_of h s = filter (is_of s) (packets h)

-- ---- what became of a packet

-- some event after the one that sent the packet passes the test
abbrev pub is_followed_by : (Event → Bool) → List Event → Packet → Bool
is_followed_by test [] p = false
is_followed_by test (e ∷ before) p =
    (test e && nat_lt p.place (length before)) || is_followed_by test before p

-- an acknowledgment of its space covers its number, also where it was lost before
abbrev pub is_acknowledged : List Event → Packet → Bool
is_acknowledged h p = is_followed_by (acknowledges p.space p.number) h p

-- a Lost line of its space names it
abbrev pub is_declared_lost : List Event → Packet → Bool
is_declared_lost h p = is_followed_by (declares_lost p.space p.number) h p

-- the keys of the space were discarded
abbrev pub is_discarded : List Event → Space → Bool
is_discarded h s = list_any (discards s) h

-- ---- acknowledgments (RFC 9002, A.7)

-- the event acknowledges the packet, which was neither acknowledged nor declared lost before
abbrev pub is_newly_acknowledged : Event → List Event → Packet → Bool
is_newly_acknowledged e before p =
    acknowledges p.space p.number e && not (is_acknowledged before p)
    && not (is_declared_lost before p)

-- the packets that the last event newly acknowledges, the latest first
abbrev pub newly_acknowledged : List Event → List Packet
newly_acknowledged [] = []
newly_acknowledged (e ∷ before) = filter (is_newly_acknowledged e before) (packets before)

abbrev pub is_some_packet : List Packet → Bool
is_some_packet [] = false
is_some_packet (p ∷ ps) = true

-- the last event newly acknowledges some packet
abbrev pub acknowledges_new : List Event → Bool
acknowledges_new h = is_some_packet (newly_acknowledged h)

-- the greatest number of the ranges, of which there is one
abbrev pub greatest : List (ℕ × ℕ) → ℕ
greatest [] = 0
greatest (range ∷ ranges) = max range.1 (greatest ranges)

-- the greatest number that the event acknowledges in the space
abbrev pub greatest_in : Space → Event → List ℕ
greatest_in s (Ack ack) = if is_space s ack.space then greatest ack.ranges ∷ [] else []
greatest_in s _ = []

-- the greatest of some numbers
abbrev pub greatest_of : List ℕ → Option ℕ
greatest_of [] = None
greatest_of (n ∷ ns) = Some (max n (unwrap_or (greatest_of ns) n))

-- the largest number that was ever acknowledged in the space
abbrev pub largest_acknowledged : List Event → Space → Option ℕ
largest_acknowledged h s = greatest_of (flat_map (greatest_in s) h)

abbrev pub is_below_largest : ℕ → Option ℕ → Bool
is_below_largest number None = false
is_below_largest number (Some largest) = nat_lt number largest

-- the least of some numbers
abbrev pub least_of : List ℕ → Option ℕ
least_of [] = None
least_of (n ∷ ns) = Some (min n (unwrap_or (least_of ns) n))

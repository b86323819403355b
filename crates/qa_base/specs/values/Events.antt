-- What is asked of one event.
use Rattle.std.specs.Prelude.{ℕ, ◌&&◌, ◌||◌, not, nat_le, Bool, true, false, List, [], ◌∷◌}
use Rattle.std.specs.List.{list_any}
use Rattle.qa_base.specs.declared.event.Event.{Event}
use Rattle.qa_base.specs.declared.event.Event.TheVariants.{Sent, Ack, Lost, Timer, Discard}
use Rattle.qa_base.specs.declared.event.Event.TheVariants.{Confirmed, Keys, Metrics}
use Rattle.qa_base.specs.declared.event.SentPacket.{SentPacket}
use Rattle.qa_base.specs.declared.space.Permission.{Permission}
use Rattle.qa_base.specs.declared.space.Permission.TheVariants.{Window, Probe, Recovery}
use Rattle.qa_base.specs.declared.space.Space.{Space}
use Rattle.qa_base.specs.declared.space.Space.TheVariants.{Initial, Handshake, App}
use Rattle.qa_base.specs.values.Limits.{max_packet_size}

abbrev pub is_space : Space → Space → Bool
is_space Initial Initial = true
is_space Handshake Handshake = true
is_space App App = true
is_space _ _ = false

abbrev pub is_permission : Permission → Permission → Bool
is_permission Window Window = true
is_permission Probe Probe = true
is_permission Recovery Recovery = true
is_permission _ _ = false

abbrev pub time_of : Event → ℕ
time_of (Sent packet) = packet.time
time_of (Ack ack) = ack.time
time_of (Lost time space ranges) = time
time_of (Timer time kind space) = time
time_of (Discard time space) = time
time_of (Confirmed time) = time
time_of (Keys time) = time
time_of (Metrics time values) = time

-- a packet was sent
abbrev pub is_sent : Event → Bool
is_sent (Sent packet) = true
is_sent _ = false

-- the packet is in flight by this leave
abbrev pub is_in_flight_by : Permission → SentPacket → Bool
is_in_flight_by permission packet =
    is_permission permission packet.permission && packet.in_flight

-- ---- ranges of packet numbers, each a pair of its least and its greatest number

abbrev pub has_ranges : List (ℕ × ℕ) → Bool
has_ranges [] = false
has_ranges (range ∷ ranges) = true

-- the number is in one of the ranges
abbrev pub is_named : List (ℕ × ℕ) → ℕ → Bool
is_named ranges n = list_any (λ range. nat_le range.0 n && nat_le n range.1) ranges

-- the event is an acknowledgment of this number in this space
abbrev pub acknowledges : Space → ℕ → Event → Bool
acknowledges s n (Ack ack) = is_space s ack.space && is_named ack.ranges n
acknowledges s n _ = false

-- the event declares this number of this space lost
abbrev pub declares_lost : Space → ℕ → Event → Bool
declares_lost s n (Lost time space ranges) = is_space s space && is_named ranges n
declares_lost s n _ = false

-- the event discards the keys of this space
abbrev pub discards : Space → Event → Bool
discards s (Discard time space) = is_space s space
discards s _ = false

-- ---- which events there are

-- the event is one that a line can say: a packet has bytes and is in flight if it is ack-eliciting,
-- ranges are not empty, and a discarded space is not the application's
abbrev pub fits : Event → Bool
fits (Sent packet) =
    nat_le 1 packet.size && nat_le packet.size max_packet_size
    && (not packet.eliciting || packet.in_flight)
fits (Ack ack) = has_ranges ack.ranges
fits (Lost time space ranges) = has_ranges ranges
fits (Discard time space) = not (is_space App space)
fits _ = true

-- ---- events that change little

-- the event can change neither the RTT, the window nor the PTO count, unless it is a Lost line that
-- completes a detection: no acknowledgment, timer or discard
abbrev pub is_quiet : Event → Bool
is_quiet (Ack ack) = false
is_quiet (Timer time kind space) = false
is_quiet (Discard time space) = false
is_quiet _ = true

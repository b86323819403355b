-- What is asked of one packet that is kept.
use Rattle.std.specs.Prelude.{ℕ, ◌&&◌, ◌||◌, not, Bool, true, false, List, if◌then◌else◌}
use Rattle.qa_base.specs.declared.space.Space.{Space}
use Rattle.qa_base.specs.values.Events.{is_space, is_named}
use Rattle.qa_sent_packets.specs.declared.fate.Fate.{Fate}
use Rattle.qa_sent_packets.specs.declared.fate.Fate.TheVariants.{Open, Owed, Acknowledged}
use Rattle.qa_sent_packets.specs.declared.fate.Fate.TheVariants.{Discarded}
use Rattle.qa_sent_packets.specs.declared.packet.SentPacket.{SentPacket}

abbrev pub is_open : Fate → Bool
is_open Open = true
is_open f = false

abbrev pub is_owed : Fate → Bool
is_owed Owed = true
is_owed f = false

abbrev pub is_acknowledged : Fate → Bool
is_acknowledged Acknowledged = true
is_acknowledged f = false

-- neither acknowledged nor of a space that was discarded
abbrev pub is_unacknowledged : Fate → Bool
is_unacknowledged Acknowledged = false
is_unacknowledged Discarded = false
is_unacknowledged f = true

-- neither open nor owed
abbrev pub is_closed : SentPacket → Bool
is_closed p = not (is_open p.fate) && not (is_owed p.fate)

-- open, and neither ack-eliciting nor in flight: nothing but an acknowledgment or a discard asks
-- for it
abbrev pub is_bare : SentPacket → Bool
is_bare p = is_open p.fate && not (p.eliciting || p.in_flight)

-- of the space, and open
abbrev pub is_open_in : Space → SentPacket → Bool
is_open_in s p = is_space s p.space && is_open p.fate

-- of the space, and an acknowledgment would still cover it
abbrev pub is_waiting : Space → SentPacket → Bool
is_waiting s p = is_space s p.space && is_unacknowledged p.fate

-- of the space, open and in flight
abbrev pub is_flying : Space → SentPacket → Bool
is_flying s p = is_space s p.space && (p.in_flight && is_open p.fate)

-- of the space, open and ack-eliciting
abbrev pub is_awaiting : Space → SentPacket → Bool
is_awaiting s p = is_space s p.space && (p.eliciting && is_open p.fate)

-- of the space, and owed
abbrev pub is_owed_in : Space → SentPacket → Bool
is_owed_in s p = is_space s p.space && is_owed p.fate

-- open, of the space and named by these ranges
abbrev pub is_new : Space → List (ℕ × ℕ) → SentPacket → Bool
is_new s ranges p = is_space s p.space && is_open p.fate && is_named ranges p.number

-- what a packet adds to the bytes in flight (RFC 9002, B.4)
abbrev pub flight_bytes : SentPacket → ℕ
flight_bytes p = if p.in_flight && is_open p.fate then p.size else 0

-- and to those of the space
abbrev pub flight_bytes_in : Space → SentPacket → ℕ
flight_bytes_in s p = if is_space s p.space then flight_bytes p else 0

-- What is asked of all packets that are kept, in the order of sending.
use Rattle.std.specs.Prelude.{ℕ, ◌-◌, ◌&&◌, ◌||◌, nat_lt, Bool, false, List, [], ◌∷◌, filter, map}
use Rattle.std.specs.Prelude.{Option, Some, None, if◌then◌else◌}
use Rattle.qa_sent_packets.specs.Fates.{is_acknowledged, is_owed}
use Rattle.qa_sent_packets.specs.declared.packet.SentPacket.{SentPacket}

-- the packets that are owed
abbrev pub owed_of : List SentPacket → List SentPacket
owed_of ps = filter (λ p. is_owed p.fate) ps

-- their numbers
abbrev pub owed_numbers : List SentPacket → List ℕ
owed_numbers ps = map (λ p. p.number) (owed_of ps)

-- when a packet was sent, by which recovery is told: its time, or the place of its line where the
-- order of the lines decides (RFC 9002, section 7.3.2)
abbrev pub mark_of : Bool → SentPacket → ℕ
mark_of by_order p = if by_order then p.place else p.time

-- when the last of them was sent, likewise
abbrev pub last_owed : Bool → Option ℕ → List SentPacket → Option ℕ
last_owed by_order at [] = at
last_owed by_order at (p ∷ ps) =
    last_owed by_order (if is_owed p.fate then Some (mark_of by_order p) else at) ps

-- ---- persistent congestion (RFC 9002, section 7.6)

-- owed, ack-eliciting and sent after the first sample
abbrev pub is_end : ℕ → SentPacket → Bool
is_end first p = is_owed p.fate && (p.eliciting && nat_lt first p.time)

-- sent more than so long after a time, where there is one
abbrev pub is_far_from : ℕ → Option ℕ → ℕ → Bool
is_far_from limit None t = false
is_far_from limit (Some began) t = nat_lt limit (t - began)

abbrev pub earliest : Option ℕ → ℕ → ℕ
earliest None t = t
earliest (Some began) t = began

-- two ends lie more than the limit apart with no acknowledged packet between; at hand is when the
-- first end was sent since the last acknowledged packet
abbrev pub are_apart : ℕ → ℕ → Option ℕ → List SentPacket → Bool
are_apart limit first began [] = false
are_apart limit first began (p ∷ ps) =
    if is_acknowledged p.fate then are_apart limit first None ps else
    (if is_end first p then is_far_from limit began p.time
    || are_apart limit first (Some (earliest began p.time)) ps else
    are_apart limit first began ps)

-- What events make of the packets that are kept.
use Rattle.std.specs.Prelude.{ℕ, ◌&&◌, ◌||◌, ◌++◌, not, nat_lt, Bool, List, [], filter, map}
use Rattle.std.specs.Prelude.{Option}
use Rattle.std.specs.Prelude.{if◌then◌else◌}
use Rattle.qa_base.specs.declared.space.Space.{Space}
use Rattle.qa_base.specs.declared.space.Permission.TheVariants.{Window}
use Rattle.qa_base.specs.machine.Detection.{is_old}
use Rattle.qa_base.specs.machine.Packets.{Packet, is_below_largest}
use Rattle.qa_base.specs.machine.Rtt.{Estimate}
use Rattle.qa_base.specs.declared.per_space.PerSpace.{PerSpace}
use Rattle.qa_base.specs.values.Events.{is_named}
use Rattle.qa_base.specs.values.PerSpace.{of_space, with_space}
use Rattle.qa_base.specs.values.Settings.{Settings, is_may}
use Rattle.qa_sent_packets.specs.Fates.{is_flying, is_new, is_owed, is_waiting}
use Rattle.qa_sent_packets.specs.Held.{Held}
use Rattle.qa_sent_packets.specs.declared.fate.Fate.{Fate}
use Rattle.qa_sent_packets.specs.declared.fate.Fate.TheVariants.{Acknowledged, DeclaredLost}
use Rattle.qa_sent_packets.specs.declared.fate.Fate.TheVariants.{Discarded, Owed}
use Rattle.qa_sent_packets.specs.declared.packet.SentPacket.{SentPacket}

-- the packet with this fate
abbrev pub with_fate : Fate → SentPacket → SentPacket
with_fate f p = record {
  time = p.time;
  place = p.place;
  space = p.space;
  number = p.number;
  size = p.size;
  eliciting = p.eliciting;
  in_flight = p.in_flight;
  fate = f;
}

-- an acknowledgment of these ranges in the space (RFC 9002, A.7)
abbrev pub covered_by : Space → List (ℕ × ℕ) → SentPacket → SentPacket
covered_by s ranges p =
    if is_waiting s p && is_named ranges p.number then with_fate Acknowledged p else p

-- ---- detection (RFC 9002, A.10)

-- by what a detection tells which packets are past a threshold: the header, the estimate, as of
-- when it looks, the largest acknowledged number of its space, and the end of the numbers that lie
-- below that by the packet threshold
pub record Thresholds : Type 0 where
  pub header : Settings
  pub rtt : Estimate
  pub now : ℕ
  pub largest : Option ℕ
  pub far_end : ℕ

-- the packet as the definitions have it, of which a detection asks for its number and time alone
abbrev pub packet_at : SentPacket → Packet
packet_at p = record {
  place = 0;
  time = p.time;
  space = p.space;
  number = p.number;
  size = p.size;
  eliciting = p.eliciting;
  in_flight = p.in_flight;
  permission = Window;
}

-- below the largest acknowledged number, for long enough or, where such packets must be lost, by
-- the packet threshold (sections 6.1.1 and 6.1.2)
abbrev pub is_past_threshold_by : Thresholds → SentPacket → Bool
is_past_threshold_by l p =
    is_below_largest p.number l.largest
    && ((not (is_may l.header.options.loss_by_number) && nat_lt p.number l.far_end)
    || is_old l.header l.rtt l.now (packet_at p))

-- a detection in the space finds those past a threshold of the packets that are open and in flight
abbrev pub found_by : Space → Thresholds → SentPacket → SentPacket
found_by s l p = if is_flying s p && is_past_threshold_by l p then with_fate Owed p else p

-- a Lost line declares what is owed
abbrev pub declared : SentPacket → SentPacket
declared p = if is_owed p.fate then with_fate DeclaredLost p else p

-- the keys of the space are discarded (RFC 9002, section 6.4)
abbrev pub discarded_in : Space → SentPacket → SentPacket
discarded_in s p = if is_waiting s p then with_fate Discarded p else p

-- ---- of all that is kept

-- of those that were set aside in the space, those are left that these ranges do not name
abbrev pub unnamed : Space → List (ℕ × ℕ) → PerSpace (List SentPacket) → PerSpace (List SentPacket)
unnamed s ranges strays =
    with_space s strays (filter (λ p. not (is_named ranges p.number)) (of_space s strays))

-- an acknowledgment of these ranges in the space
abbrev pub acknowledged : Space → List (ℕ × ℕ) → Held → Held
acknowledged s ranges h = record {
  dropped = h.dropped;
  packets = map (covered_by s ranges) h.packets;
  strays = unnamed s ranges h.strays;
}

-- a discard of the keys of the space
abbrev pub discarded : Space → Held → Held
discarded s h = record {
  dropped = h.dropped;
  packets = map (discarded_in s) h.packets;
  strays = with_space s h.strays [];
}

-- the open packets that an acknowledgment finds, in the order of sending
abbrev pub newly_found : Space → List (ℕ × ℕ) → Held → List SentPacket
newly_found s ranges h =
    filter (λ p. is_named ranges p.number) (of_space s h.strays)
    ++ filter (is_new s ranges) h.packets

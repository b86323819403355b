-- What one event makes of the values that are kept.
use Rattle.std.specs.Prelude.{◌≤◌, ℕ, ◌-◌, ◌&&◌, ◌||◌, not, ◌==◌, nat_le, min, fold, find, reverse}
use Rattle.std.specs.Prelude.{Bool, false, List, [], ◌∷◌, Option, Some, None, option_map}
use Rattle.std.specs.Prelude.{if◌then◌else◌}
use Rattle.std.specs.List.{list_any}
use Rattle.qa_base.specs.declared.event.Event.{Event}
use Rattle.qa_base.specs.machine.Packets.{Packet}
use Rattle.qa_base.specs.machine.Reno.{Control, Move, CongestionEvent, persistent_congestions, grow}
use Rattle.qa_base.specs.machine.Reno.{is_app_limited, is_outside_recovery, latest_sent, moved}
use Rattle.qa_base.specs.machine.Rtt.{Sample}
use Rattle.qa_base.specs.values.Limits.{min_datagram_size, max_packet_size}
use Rattle.qa_base.specs.values.Settings.{Settings}
use Rattle.qa_sent_packets.specs.Walks.{mark_of}
use Rattle.qa_sent_packets.specs.declared.packet.SentPacket.{SentPacket}

-- a number, or the greatest of 64 bits where it is greater
abbrev pub capped : ℕ → ℕ
capped n = min n 18446744073709551615

-- ---- samples (RFC 9002, section 5.1)

-- when the last packet of this number was sent, of those in the order of sending
abbrev pub sent_at : ℕ → List SentPacket → Option ℕ
sent_at number ps = option_map (λ p. p.time) (find (λ p. p.number == number) (reverse ps))

abbrev pub limited_delay : ℕ → Bool → ℕ → ℕ
limited_delay most confirmed delay = if confirmed then min delay most else delay

abbrev pub sample_at : ℕ → ℕ → Option ℕ → Option Sample
sample_at time delay None = None
sample_at time delay (Some sent) =
    Some (record { latest_rtt = time - sent; ack_delay = delay; time = time })

-- an ack-eliciting packet; where the sender samples no others, the one of this number
abbrev pub gives_sample : Bool → ℕ → SentPacket → Bool
gives_sample only number p = p.eliciting && (not only || p.number == number)

-- the sample of an acknowledgment of these packets
abbrev pub sample_by : Bool → ℕ → ℕ → ℕ → List SentPacket → Option Sample
sample_by only time delay number ps =
    if list_any (gives_sample only number) ps then sample_at time delay
    (sent_at number ps) else None

-- ---- the window

-- a maximum datagram size in its range
abbrev pub IsDatagramSize : ℕ → Type 0
IsDatagramSize size = (min_datagram_size ≤ size) × (size ≤ max_packet_size)

-- when the last of the packets was sent, by which recovery is told, where there are any
abbrev pub last_sent : Settings → List Packet → Option ℕ
last_sent c [] = None
last_sent c (p ∷ ps) = Some (latest_sent c (p ∷ ps))

-- the move of a loss, of packets the last of which was sent at a time, where there are any
abbrev pub hits_at : ℕ → Option ℕ → List Move
hits_at now None = []
hits_at now (Some last) = CongestionEvent last now ∷ []

-- a loss enters recovery, of packets the last of which was sent at a time, where there are any
abbrev pub enters_at : Option ℕ → Option ℕ → Bool
enters_at recovery None = false
enters_at recovery (Some last) = is_outside_recovery recovery last

-- a window and a packet of sizes at which the window grows by it
abbrev pub can_grow : ℕ → ℕ → Bool
can_grow window size =
    nat_le 1 window && nat_le window 4611686018427387904 && nat_le 1 size
    && nat_le size max_packet_size

-- the window after a packet was acknowledged, where the sizes allow it
abbrev pub grown_by : Settings → Control → SentPacket → Control
grown_by c r p =
    if p.in_flight && can_grow r.window p.size
    then grow c.max_datagram_size p.size (mark_of c.options.recovery_by_order p) r else r

-- the window after an event: first the loss by a detection at a time counts, then persistent
-- congestion, then growth
abbrev pub reno_after : Settings → Control → ℕ → Event → List SentPacket → Option ℕ → Bool → Control
reno_after c r now e ps last is_persistent =
    let after_losses = fold (moved c.max_datagram_size) r (hits_at now last) in
    let after_collapse = fold (moved c.max_datagram_size) after_losses
    (persistent_congestions is_persistent) in
    fold (grown_by c) after_collapse (if is_app_limited e then [] else ps)

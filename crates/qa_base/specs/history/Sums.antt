-- Sums over the packets that are open.
use Rattle.std.specs.Prelude.{ℕ, ◌&&◌, Bool, List, filter, sum_by, if◌then◌else◌}
use Rattle.qa_base.specs.declared.event.Event.{Event}
use Rattle.qa_base.specs.declared.space.Space.{Space}
use Rattle.qa_base.specs.values.Events.{discards}
use Rattle.qa_base.specs.machine.Loss.{is_open}
use Rattle.qa_base.specs.machine.Packets.{Packet, packets, is_of}
use Rattle.qa_base.specs.values.Settings.{Settings}

-- what a packet adds that counts only where a test is true
abbrev pub counted : (Packet → Bool) → (Packet → ℕ) → Packet → ℕ
counted test weight p = if test p then weight p else 0

-- the weights of the open packets
abbrev pub open_sum : (Packet → ℕ) → Settings → List Event → ℕ
open_sum weight c h = sum_by (counted (is_open c h) weight) (packets h)

-- the packet was open before the event, which discards its space
abbrev pub is_discarded_by : Settings → Event → List Event → Packet → Bool
is_discarded_by c e before p = discards p.space e && is_open c before p

-- the open packets whose space the event discards
abbrev pub discarded : Settings → Event → List Event → List Packet
discarded c e before = filter (is_discarded_by c e before) (packets before)

-- a weight that packets of one space alone have
abbrev pub within_space : Space → (Packet → ℕ) → Packet → ℕ
within_space s weight p = if is_of s p then weight p else 0

-- the bytes of a packet that is in flight (RFC 9002, B.4)
abbrev pub bytes : Packet → ℕ
bytes p = if p.in_flight then p.size else 0

-- those of a packet of the space
abbrev pub bytes_of : Space → Packet → ℕ
bytes_of s p = within_space s bytes p

-- one for an ack-eliciting packet of the space
abbrev pub asks_of : Space → Packet → ℕ
asks_of s p = if is_of s p && p.eliciting then 1 else 0

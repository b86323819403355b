-- Which packets are owed as lost, which may be declared lost, which are open, the bytes in flight,
-- and persistent congestion.
--
-- `c` are the settings of the header, `h` is the history.
use Rattle.std.specs.Prelude.{ℕ, ◌&&◌, ◌||◌, not, Bool, List, filter, Option, sum_by, if◌then◌else◌}
use Rattle.qa_base.specs.declared.event.Event.{Event}
use Rattle.qa_base.specs.declared.space.Space.{Space}
use Rattle.qa_base.specs.machine.Detection.{detection_by, owed_by, is_owed_by, free_by, is_free_by}
use Rattle.qa_base.specs.machine.Detection.{declared_by, is_unsettled, is_persistent_by}
use Rattle.qa_base.specs.machine.Estimates.{sampled}
use Rattle.qa_base.specs.machine.Packets.{Packet, packets, is_discarded}
use Rattle.qa_base.specs.values.Settings.{Settings}

-- ---- losses (RFC 9002, section 6.1, A.10)

-- where, and as of when, the last event looks for losses
abbrev pub detection : Settings → List Event → Option (Space × ℕ)
detection c h = detection_by c (sampled c h) h

-- the packets that the last event found lost; the next has to declare them
abbrev pub owed : Settings → List Event → List Packet
owed c h = owed_by c (sampled c h) h

abbrev pub is_owed : Settings → List Event → Packet → Bool
is_owed c h p = is_owed_by c (sampled c h) h p

-- the packets that the last event left to the sender: a Lost line behind it may declare them too
abbrev pub free : Settings → List Event → List Packet
free c h = free_by c (sampled c h) h

abbrev pub is_free : Settings → List Event → Packet → Bool
is_free c h p = is_free_by c (sampled c h) h p

abbrev pub is_nameable : Settings → List Event → Packet → Bool
is_nameable c h p = is_owed c h p || is_free c h p

-- the packets that the next Lost line may name: those that are owed, and those that are free
abbrev pub nameable : Settings → List Event → List Packet
nameable c h = filter (is_nameable c h) (packets h)

-- the packets that are lost by the last event: by a detection, and by a Lost line with those of the
-- detection that it completes
abbrev pub declared : Settings → List Event → List Packet
declared c h = declared_by c (sampled c h) h

-- ---- bytes in flight (RFC 9002, B.4, B.9)

-- neither acknowledged nor lost, and its space not discarded
abbrev pub is_open : Settings → List Event → Packet → Bool
is_open c h p = is_unsettled h p && not (is_owed c h p) && not (is_discarded h p.space)

-- what a packet adds to the bytes in flight
abbrev pub flight_size : Settings → List Event → Packet → ℕ
flight_size c h p = if p.in_flight && is_open c h p then p.size else 0

abbrev pub bytes_in_flight : Settings → List Event → ℕ
bytes_in_flight c h = sum_by (flight_size c h) (packets h)

-- ---- persistent congestion (RFC 9002, section 7.6)

-- the last event establishes it by two packets that are lost by it
abbrev pub is_persistent : Settings → List Event → Bool
is_persistent c h = is_persistent_by c (sampled c h) h

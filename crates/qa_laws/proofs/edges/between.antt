-- Edges of persistent congestion: what was acknowledged between the two packets (RFC 9002, section 7.6.2).
--
-- Packet 0 of App gives a sample of 100000, at 100000, and grows the window from 12000 to 13200.
use Rattle.std.specs.Prelude.{◌≡◌, List, [], ◌∷◌, Some, refl}
use Rattle.qa_base.specs.declared.event.Event.{Event}
use Rattle.qa_base.specs.declared.event.Event.TheVariants.{Discard}
use Rattle.qa_base.specs.declared.space.Space.TheVariants.{Initial, Handshake, App}
use Rattle.qa_base.specs.machine.Reno.{reno}
use Rattle.qa_base.specs.machine.Rules.{first_broken, IsRun}
use Rattle.qa_base.specs.values.Settings.{Settings}
use Rattle.qa_laws.proofs.Shorthand.{server, sent, padded, bare, ack, lost}

abbrev s : Settings
s = server 1200 12000

-- ---- a packet that was lost before

-- Handshake packet 0 goes out between packets 1 and 2 of App, and is found lost, three below packet 3.
abbrev lost_between : List Event
lost_between =
    lost Handshake ((0, 0) ∷ []) 1275001 ∷
    ack Handshake ((3, 3) ∷ []) 1275001 ∷
    padded App 5 1175001 1200 ∷
    sent Handshake 3 1175001 1200 ∷
    sent App 2 1175001 1200 ∷
    sent Handshake 0 300000 1200 ∷
    sent App 1 200000 1200 ∷
    ack App ((0, 0) ∷ []) 100000 ∷
    sent App 0 0 1200 ∷ []

abbrev never_acknowledged : List Event
never_acknowledged =
    lost App ((1, 2) ∷ []) 1275002 ∷
    ack App ((5, 5) ∷ []) 1275002 ∷
    lost_between

abbrev acknowledged_late : List Event
acknowledged_late =
    lost App ((1, 2) ∷ []) 1275002 ∷
    ack App ((5, 5) ∷ []) 1275002 ∷
    ack Handshake ((0, 0) ∷ []) 1275002 ∷
    lost_between

-- The sample of Handshake packet 3 is 100000: rttvar 37500, duration 3 * (100000 + 150000 + 25000) = 825000, and 1 and 2 lie
-- 975001 apart. The window is 6600 after the first loss, then 2400 by the collapse, then 3600 by packet 5.
pub lost_packet_between_that_was_not_acknowledged :
    IsRun s never_acknowledged × ((reno s never_acknowledged).window ≡ 3600)
unfolding first_broken
lost_packet_between_that_was_not_acknowledged = ((((((((((((tt, refl), refl), refl), refl), refl), refl), refl), refl), refl), refl), refl), refl)

-- A late acknowledgment of Handshake packet 0 newly acknowledges nothing, but it was acknowledged: no collapse. The losses of
-- packets sent at 1175001 and before change nothing in the recovery that began at 1275001.
pub lost_packet_between_that_was_acknowledged_late :
    IsRun s acknowledged_late × ((reno s acknowledged_late).window ≡ 6600)
unfolding first_broken
lost_packet_between_that_was_acknowledged_late = (((((((((((((tt, refl), refl), refl), refl), refl), refl), refl), refl), refl), refl), refl), refl), refl)

-- The same late acknowledgment after the collapse changes nothing.
pub late_acknowledgment_after_the_collapse :
    IsRun s (ack Handshake ((0, 0) ∷ []) 1275002 ∷ never_acknowledged)
    × ((reno s (ack Handshake ((0, 0) ∷ []) 1275002 ∷ never_acknowledged)).window ≡ 3600)
unfolding first_broken
late_acknowledgment_after_the_collapse = (((((((((((((tt, refl), refl), refl), refl), refl), refl), refl), refl), refl), refl), refl), refl), refl)

-- ---- a packet of a discarded space

abbrev discarded_between : List Event
discarded_between =
    lost App ((1, 2) ∷ []) 1275002 ∷
    ack App ((5, 5) ∷ []) 1275002 ∷
    padded App 5 1175002 1200 ∷
    sent App 2 1175001 1200 ∷
    Discard 500000 Initial ∷
    sent Initial 0 300000 1200 ∷
    sent App 1 200000 1200 ∷
    ack App ((0, 0) ∷ []) 100000 ∷
    sent App 0 0 1200 ∷ []

-- The Initial packet between was never acknowledged: 975001 is more than 975000, so 13200 is halved, collapses and grows.
pub discarded_packet_between_that_was_not_acknowledged :
    IsRun s discarded_between × ((reno s discarded_between).window ≡ 3600)
unfolding first_broken
discarded_packet_between_that_was_not_acknowledged = ((((((((((tt, refl), refl), refl), refl), refl), refl), refl), refl), refl), refl)

abbrev acknowledged_and_discarded : List Event
acknowledged_and_discarded =
    lost App ((1, 2) ∷ []) 1275002 ∷
    ack App ((5, 5) ∷ []) 1275002 ∷
    padded App 5 1175002 1200 ∷
    sent App 2 1175001 1200 ∷
    Discard 500000 Initial ∷
    ack Initial ((0, 0) ∷ []) 400000 ∷
    sent Initial 0 300000 1200 ∷
    sent App 1 200000 1200 ∷
    ack App ((0, 0) ∷ []) 100000 ∷
    sent App 0 0 1200 ∷ []

-- The Initial packet between was acknowledged before its space was discarded: no collapse. It grew the window to 14400, half
-- of which is 7200.
pub discarded_packet_between_that_was_acknowledged :
    IsRun s acknowledged_and_discarded × ((reno s acknowledged_and_discarded).window ≡ 7200)
unfolding first_broken
discarded_packet_between_that_was_acknowledged = (((((((((((tt, refl), refl), refl), refl), refl), refl), refl), refl), refl), refl), refl)

-- ---- a packet that is not in flight, and one beside the two

abbrev bare_between : List Event
bare_between =
    lost App ((1, 1) ∷ (3, 3) ∷ []) 1275002 ∷
    ack App ((2, 2) ∷ (6, 6) ∷ []) 1275002 ∷
    padded App 6 1175002 1200 ∷
    sent App 3 1175001 1200 ∷
    bare App 2 300000 100 ∷
    sent App 1 200000 1200 ∷
    ack App ((0, 0) ∷ []) 100000 ∷
    sent App 0 0 1200 ∷ []

-- Packet 2 is not in flight, but it was sent between and acknowledged: no collapse.
pub acknowledged_packet_between_that_is_not_in_flight :
    IsRun s bare_between × ((reno s bare_between).window ≡ 6600)
unfolding first_broken
acknowledged_packet_between_that_is_not_in_flight = (((((((((tt, refl), refl), refl), refl), refl), refl), refl), refl), refl)

abbrev acknowledged_beside : List Event
acknowledged_beside =
    lost App ((1, 2) ∷ []) 1275002 ∷
    ack App ((5, 5) ∷ []) 1275002 ∷
    ack Handshake ((0, 1) ∷ []) 1275002 ∷
    padded App 5 1175002 1200 ∷
    padded Handshake 1 1175001 1200 ∷
    sent App 2 1175001 1200 ∷
    sent App 1 200000 1200 ∷
    padded Handshake 0 200000 1200 ∷
    ack App ((0, 0) ∷ []) 100000 ∷
    sent App 0 0 1200 ∷ []

-- Acknowledged Handshake packets went out at the same times as 1 and 2, but before the one and after the other in the log.
-- They are padded, so there is no sample; they grow the window to 15600, half of which is 7800; 2400 and packet 5 make 3600.
pub acknowledged_packets_beside_the_two :
    IsRun s acknowledged_beside × ((reno s acknowledged_beside).window ≡ 3600)
    × ((reno s acknowledged_beside).ssthresh ≡ Some 7800)
unfolding first_broken
acknowledged_packets_beside_the_two = (((((((((((tt, refl), refl), refl), refl), refl), refl), refl), refl), refl), refl), refl, refl)

abbrev acknowledged_at_the_time_of_an_end : List Event
acknowledged_at_the_time_of_an_end =
    lost App ((1, 2) ∷ []) 1275002 ∷
    ack App ((5, 5) ∷ []) 1275002 ∷
    ack Handshake ((0, 0) ∷ []) 1275002 ∷
    padded App 5 1175002 1200 ∷
    sent App 2 1175001 1200 ∷
    padded Handshake 0 200000 1200 ∷
    sent App 1 200000 1200 ∷
    ack App ((0, 0) ∷ []) 100000 ∷
    sent App 0 0 1200 ∷ []

-- An acknowledged Handshake packet went out at the time of packet 1, but after it: no collapse. It grew the window to 14400,
-- half of which is 7200.
pub acknowledged_packet_at_the_time_of_an_end :
    IsRun s acknowledged_at_the_time_of_an_end × ((reno s acknowledged_at_the_time_of_an_end).window ≡ 7200)
unfolding first_broken
acknowledged_packet_at_the_time_of_an_end = ((((((((((tt, refl), refl), refl), refl), refl), refl), refl), refl), refl), refl)

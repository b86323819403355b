-- Edges of the window and of recovery (RFC 9002, section 7.3).
use Rattle.std.specs.Prelude.{◌≡◌, List, [], ◌∷◌, Some, None, refl}
use Rattle.qa_base.specs.declared.event.Event.{Event}
use Rattle.qa_base.specs.declared.rule.Rule.TheVariants as rule
use Rattle.qa_base.specs.declared.space.Space.TheVariants.{App}
use Rattle.qa_base.specs.machine.Reno.{reno}
use Rattle.qa_base.specs.machine.Rules.{first_broken, IsRun}
use Rattle.qa_base.specs.values.Settings.{Settings}
use Rattle.qa_laws.proofs.Shorthand.{server, sent, padded, bare, ack, limited_ack, lost}

abbrev s : Settings
s = server 1200 12000

-- Packet 0 is lost at 100000, three below packet 3: recovery begins then, with a window of 6000. Packets 1 and 2 stay in flight.
abbrev in_recovery : List Event
in_recovery =
    lost App ((0, 0) ∷ []) 100000 ∷
    ack App ((3, 3) ∷ []) 100000 ∷
    sent App 3 0 1200 ∷
    sent App 2 0 1200 ∷
    sent App 1 0 1200 ∷
    sent App 0 0 1200 ∷ []

-- ---- room for a packet

-- Of a window of 2400 bytes 1200 or 2399 are in flight: a packet has to fit as a whole, and a byte of room is none for two.
pub packet_has_to_fit_whole :
    (first_broken (server 1200 2400) (sent App 0 0 1200 ∷ []) (sent App 1 0 1200) ≡ None)
    × (first_broken (server 1200 2400) (sent App 0 0 1200 ∷ []) (sent App 1 0 1201) ≡ Some rule.PastWindow)
    × (first_broken (server 1200 2400) (sent App 0 0 2399 ∷ []) (sent App 1 0 1) ≡ None)
    × (first_broken (server 1200 2400) (sent App 0 0 2399 ∷ []) (sent App 1 0 2) ≡ Some rule.PastWindow)
    × (first_broken (server 1200 2400) (sent App 0 0 2399 ∷ []) (padded App 1 0 1200) ≡ Some rule.PastWindow)
    × (first_broken (server 1200 2400) (sent App 0 0 2399 ∷ []) (bare App 1 0 1200) ≡ None)
    × (first_broken (server 1200 2400) [] (sent App 0 0 2401) ≡ Some rule.PastWindow)
unfolding first_broken
packet_has_to_fit_whole = (refl, refl, refl, refl, refl, refl, refl)

-- ---- what was sent when recovery began

abbrev growing_at_the_start : List Event
growing_at_the_start =
    lost App ((1, 2) ∷ []) 200000 ∷
    ack App ((4, 4) ∷ []) 200000 ∷
    sent App 4 100000 1200 ∷
    in_recovery

abbrev growing_past_the_start : List Event
growing_past_the_start =
    lost App ((1, 2) ∷ []) 200001 ∷
    ack App ((4, 4) ∷ []) 200001 ∷
    sent App 4 100001 1200 ∷
    in_recovery

-- Packet 4, sent at 100000 as recovery began, grows nothing; sent at 100001 it adds 1200 * 1200 / 6000 = 240. The losses of 1
-- and 2, sent at 0, change nothing in both.
pub growth_of_a_packet_sent_as_recovery_began :
    IsRun s growing_at_the_start × ((reno s growing_at_the_start).window ≡ 6000)
    × IsRun s growing_past_the_start × ((reno s growing_past_the_start).window ≡ 6240)
    × ((reno s growing_past_the_start).recovery_start_time ≡ Some 100000)
unfolding first_broken
growth_of_a_packet_sent_as_recovery_began =
    ((((((((((tt, refl), refl), refl), refl), refl), refl), refl), refl), refl), refl, (((((((((tt, refl), refl), refl), refl), refl), refl), refl), refl), refl), refl, refl)

abbrev hit_at_the_start : List Event
hit_at_the_start =
    ack App ((7, 7) ∷ []) 200001 ∷
    sent App 7 100001 1200 ∷
    sent App 4 100000 1200 ∷
    in_recovery

abbrev hit_past_the_start : List Event
hit_past_the_start =
    ack App ((7, 7) ∷ []) 200001 ∷
    sent App 7 100001 1200 ∷
    sent App 4 100001 1200 ∷
    in_recovery

-- Packets 1, 2 and 4 are lost. With 4 sent at 100000, as recovery began, it is no new hit, and packet 7 adds 240; with 4 sent at
-- 100001 recovery begins again at 200001: half of 6000 is 3000, and 7 was sent before.
pub hit_by_a_packet_sent_as_recovery_began :
    IsRun s (lost App ((1, 2) ∷ (4, 4) ∷ []) 200001 ∷ hit_at_the_start)
    × (reno s hit_at_the_start ≡ record { window = 6240; ssthresh = Some 6000; recovery_start_time = Some 100000 })
    × IsRun s (lost App ((1, 2) ∷ (4, 4) ∷ []) 200001 ∷ hit_past_the_start)
    × (reno s hit_past_the_start ≡ record { window = 3000; ssthresh = Some 3000; recovery_start_time = Some 200001 })
unfolding first_broken
hit_by_a_packet_sent_as_recovery_began = (((((((((((tt, refl), refl), refl), refl), refl), refl), refl), refl), refl), refl), refl, ((((((((((tt, refl), refl), refl), refl), refl), refl), refl), refl), refl), refl), refl)

-- ---- the threshold and the minimum window

abbrev least_window : List Event
least_window =
    lost App ((0, 0) ∷ []) 100000 ∷
    ack App ((3, 3) ∷ []) 100000 ∷
    sent App 3 0 600 ∷
    sent App 2 0 600 ∷
    sent App 1 0 600 ∷
    sent App 0 0 600 ∷ []

-- From a window of 2400: the threshold is 1200, the window stays 2400, two datagrams.
pub threshold_below_the_minimum_window :
    IsRun (server 1200 2400) least_window
    × (reno (server 1200 2400) least_window ≡ record { window = 2400; ssthresh = Some 1200; recovery_start_time = Some 100000 })
unfolding first_broken
threshold_below_the_minimum_window = (((((((tt, refl), refl), refl), refl), refl), refl), refl)

-- From a window of 4801: the half is 2400 rounded down, just the minimum. From 5003: 2501, above it.
pub half_is_rounded_down :
    (reno (server 1200 4801) least_window ≡ record { window = 2400; ssthresh = Some 2400; recovery_start_time = Some 100000 })
    × (reno (server 1200 5003) least_window ≡ record { window = 2501; ssthresh = Some 2501; recovery_start_time = Some 100000 })
half_is_rounded_down = (refl, refl)

-- ---- slow start and avoidance

abbrev across_the_threshold : List Event
across_the_threshold =
    lost App ((1, 2) ∷ []) 1275002 ∷
    ack App ((5, 6) ∷ []) 1275002 ∷
    padded App 6 1175002 100 ∷
    padded App 5 1175002 1200 ∷
    sent App 2 1175001 1200 ∷
    sent App 1 200000 1200 ∷
    ack App ((0, 0) ∷ []) 100000 ∷
    sent App 0 0 1200 ∷ []

-- From 4800: packet 0 makes 6000, the loss halves it to 3000, the collapse makes 2400. Packet 5 comes first: 3600, past the
-- threshold of 3000; packet 6 then adds 1200 * 100 / 3600 = 33. By falling number it would be 2500 and 3700.
pub growth_is_by_rising_number :
    IsRun (server 1200 4800) across_the_threshold
    × (reno (server 1200 4800) across_the_threshold ≡ record { window = 3633; ssthresh = Some 3000; recovery_start_time = None })
unfolding first_broken
growth_is_by_rising_number = (((((((((tt, refl), refl), refl), refl), refl), refl), refl), refl), refl)

abbrev bare_acknowledged : List Event
bare_acknowledged =
    ack App ((0, 1) ∷ []) 100000 ∷
    sent App 1 0 1200 ∷
    bare App 0 0 500 ∷ []

-- Packet 0 is not in flight and grows nothing: 12000 + 1200.
pub packet_not_in_flight_grows_nothing :
    IsRun s bare_acknowledged × ((reno s bare_acknowledged).window ≡ 13200)
unfolding first_broken
packet_not_in_flight_grows_nothing = ((((tt, refl), refl), refl), refl)

abbrev limited_and_lost : List Event
limited_and_lost =
    lost App ((0, 0) ∷ []) 100000 ∷
    limited_ack App ((3, 3) ∷ []) 100000 ∷
    sent App 3 0 1200 ∷
    sent App 2 0 1200 ∷
    sent App 1 0 1200 ∷
    sent App 0 0 1200 ∷ []

-- A sender that was limited does not grow, but a loss halves its window all the same.
pub limited_sender_is_hit :
    IsRun s limited_and_lost × ((reno s limited_and_lost).window ≡ 6000)
unfolding first_broken
limited_sender_is_hit = (((((((tt, refl), refl), refl), refl), refl), refl), refl)

-- ---- packets of other sizes than a datagram

abbrev sizes_acknowledged : List Event
sizes_acknowledged =
    ack App ((0, 1) ∷ []) 100000 ∷
    sent App 1 0 1500 ∷
    sent App 0 0 500 ∷ []

-- In slow start each packet adds its size, below a datagram and above it: 12000 + 500 + 1500. By datagrams it would be 14400, and
-- by no more than a datagram each 13700.
pub slow_start_is_by_the_sizes :
    IsRun s sizes_acknowledged × ((reno s sizes_acknowledged).window ≡ 14000)
unfolding first_broken
slow_start_is_by_the_sizes = ((((tt, refl), refl), refl), refl)

abbrev sizes_past_recovery : List Event
sizes_past_recovery =
    lost App ((1, 2) ∷ []) 200001 ∷
    ack App ((4, 5) ∷ []) 200001 ∷
    sent App 5 100001 1500 ∷
    sent App 4 100001 700 ∷
    in_recovery

-- From the threshold of 6000 on packet 4 adds 1200 * 700 / 6000 = 140, and packet 5 then 1200 * 1500 / 6140 = 293. A whole datagram
-- for each would be 240 and 230.
pub avoidance_is_by_the_sizes :
    IsRun s sizes_past_recovery × ((reno s sizes_past_recovery).window ≡ 6433)
unfolding first_broken
avoidance_is_by_the_sizes = (((((((((((tt, refl), refl), refl), refl), refl), refl), refl), refl), refl), refl), refl)

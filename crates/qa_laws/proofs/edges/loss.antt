-- Edges of loss detection (RFC 9002, section 6.1).
use Rattle.std.specs.Prelude.{◌≡◌, ℕ, List, [], ◌∷◌, Some, None, refl}
use Rattle.qa_base.specs.declared.event.Event.{Event}
use Rattle.qa_base.specs.declared.event.Event.TheVariants.{Confirmed}
use Rattle.qa_base.specs.declared.rule.Rule.TheVariants as rule
use Rattle.qa_base.specs.declared.space.Space.TheVariants.{App}
use Rattle.qa_base.specs.machine.Estimates.{rtt}
use Rattle.qa_base.specs.machine.Loss.{owed}
use Rattle.qa_base.specs.machine.Reno.{reno}
use Rattle.qa_base.specs.machine.Rules.{first_broken, IsRun, IsComplete}
use Rattle.qa_base.specs.values.Settings.{Settings}
use Rattle.qa_base.specs.machine.Timer.{deadline}
use Rattle.qa_laws.proofs.Shorthand.{server, sent, padded, bare, ack, lost, loss_fires}
use Rattle.qa_laws.proofs.edges.Deadlines.{loss_at, pto_at}

abbrev s : Settings
s = server 1200 12000

-- ---- the delay of the time threshold (section 6.1.2)

abbrev odd_rtt : List Event
odd_rtt =
    ack App ((1, 1) ∷ []) 100001 ∷
    sent App 1 0 1200 ∷
    sent App 0 0 1200 ∷ []

-- 9/8 of 100001 is 112501.125, so packet 0 is old from 112502 on: the timer is set for then, one microsecond less is early,
-- and the timer at that time finds the packet.
pub loss_delay_is_rounded_up :
    IsRun s odd_rtt × (deadline s odd_rtt ≡ loss_at App 112502)
    × (first_broken s odd_rtt (loss_fires App 112501) ≡ Some rule.TimerEarly)
    × IsRun s (lost App ((0, 0) ∷ []) 112502 ∷ loss_fires App 112502 ∷ odd_rtt)
unfolding first_broken
loss_delay_is_rounded_up = ((((tt, refl), refl), refl), refl, refl, (((((tt, refl), refl), refl), refl), refl))

abbrev slower : List Event
slower =
    ack App ((2, 2) ∷ []) 300000 ∷
    sent App 2 100000 1200 ∷
    sent App 1 100000 1200 ∷
    ack App ((0, 0) ∷ []) 100000 ∷
    sent App 0 0 1200 ∷ []

-- Samples 100000 and 200000: smoothed (700000 + 200000) / 8 = 112500, latest 200000. Packet 1 is 200000 old, which is past
-- 9/8 of smoothed (126563) but not of latest (225000): nothing is owed, and the timer is set for 100000 + 225000.
pub latest_above_smoothed_decides :
    IsRun s slower × (owed s slower ≡ []) × ((rtt s slower).smoothed_rtt ≡ 112500)
    × (deadline s slower ≡ loss_at App 325000)
    × (first_broken s slower (loss_fires App 324999) ≡ Some rule.TimerEarly)
    × IsRun s (lost App ((1, 1) ∷ []) 325000 ∷ loss_fires App 325000 ∷ slower)
unfolding first_broken
latest_above_smoothed_decides = ((((((tt, refl), refl), refl), refl), refl), refl, refl, refl, refl, (((((((tt, refl), refl), refl), refl), refl), refl), refl))

abbrev faster : List Event
faster =
    ack App ((2, 2) ∷ []) 150000 ∷
    sent App 2 100000 1200 ∷
    sent App 1 100000 1200 ∷
    ack App ((0, 0) ∷ []) 100000 ∷
    sent App 0 0 1200 ∷ []

-- Samples 100000 and 50000: smoothed (700000 + 50000) / 8 = 93750, of which 9/8 is 105468.75: the timer is set for
-- 100000 + 105469, not for 9/8 of latest (156250).
pub smoothed_above_latest_decides :
    IsRun s faster × (owed s faster ≡ []) × (deadline s faster ≡ loss_at App 205469)
    × (first_broken s faster (loss_fires App 205468) ≡ Some rule.TimerEarly)
    × IsRun s (lost App ((1, 1) ∷ []) 205469 ∷ loss_fires App 205469 ∷ faster)
unfolding first_broken
smoothed_above_latest_decides = ((((((tt, refl), refl), refl), refl), refl), refl, refl, refl, (((((((tt, refl), refl), refl), refl), refl), refl), refl))

-- ---- the granularity of a millisecond (section 6.1.2)

abbrev quick : List Event
quick =
    ack App ((1, 1) ∷ []) 100 ∷
    sent App 1 0 1200 ∷
    sent App 0 0 1200 ∷ []

-- 9/8 of 100 is 112.5, less than the granularity of 1000.
pub granularity_sets_the_loss_timer :
    IsRun s quick × (deadline s quick ≡ loss_at App 1000)
    × (first_broken s quick (loss_fires App 999) ≡ Some rule.TimerEarly)
    × IsRun s (lost App ((0, 0) ∷ []) 1000 ∷ loss_fires App 1000 ∷ quick)
unfolding first_broken
granularity_sets_the_loss_timer = ((((tt, refl), refl), refl), refl, refl, (((((tt, refl), refl), refl), refl), refl))

abbrev quick_twice : List Event
quick_twice =
    sent App 2 899 1200 ∷
    ack App ((1, 1) ∷ []) 800 ∷
    sent App 1 0 1200 ∷
    sent App 0 0 1200 ∷ []

-- A sample of 800, then of 100 or 101: smoothed 5700 / 8 = 712 or 5701 / 8 = 712, of which 9/8 is 801. Packet 0 stands two
-- numbers below packet 2: at an age of 999 it is not lost, at 1000 it is.
pub granularity_bounds_a_detection :
    IsRun s (ack App ((2, 2) ∷ []) 999 ∷ quick_twice)
    × (owed s (ack App ((2, 2) ∷ []) 999 ∷ quick_twice) ≡ [])
    × (deadline s (ack App ((2, 2) ∷ []) 999 ∷ quick_twice) ≡ loss_at App 1000)
    × IsRun s (lost App ((0, 0) ∷ []) 1000 ∷ ack App ((2, 2) ∷ []) 1000 ∷ quick_twice)
unfolding first_broken
granularity_bounds_a_detection = ((((((tt, refl), refl), refl), refl), refl), refl, refl, ((((((tt, refl), refl), refl), refl), refl), refl))

abbrev exact_age : List Event
exact_age =
    sent App 2 12500 1200 ∷
    sent App 1 12499 1200 ∷
    ack App ((0, 0) ∷ []) 12499 ∷
    sent App 0 0 1200 ∷ []

-- A sample of 12499, then packet 2 acknowledged after 12499 again: smoothed stays, 9/8 of it is 14061.375. At 24999 packet 1
-- is 12500 old and awaits its time, 12499 + 14062.
pub young_packet_awaits_its_time :
    IsRun s (ack App ((2, 2) ∷ []) 24999 ∷ exact_age)
    × (owed s (ack App ((2, 2) ∷ []) 24999 ∷ exact_age) ≡ [])
    × (deadline s (ack App ((2, 2) ∷ []) 24999 ∷ exact_age) ≡ loss_at App 26561)
unfolding first_broken
young_packet_awaits_its_time = ((((((tt, refl), refl), refl), refl), refl), refl, refl)

-- ---- packets that are not in flight, or not ack-eliciting (sections 2 and 6.1)

abbrev bare_below : List Event
bare_below =
    ack App ((4, 4) ∷ []) 200000 ∷
    sent App 4 100000 1200 ∷
    bare App 3 0 100 ∷
    bare App 0 0 100 ∷ []

-- Packet 0 is four numbers below packet 4, and packet 3 is 200000 old where 112500 are enough; neither is in flight.
pub packet_not_in_flight_is_never_lost :
    IsRun s bare_below × IsComplete s bare_below × (deadline s bare_below ≡ None)
    × ((reno s bare_below).window ≡ 13200)
    × (first_broken s bare_below (lost App ((0, 0) ∷ []) 200000) ≡ Some rule.LossNotOwed)
unfolding first_broken
packet_not_in_flight_is_never_lost = (((((tt, refl), refl), refl), refl), refl, refl, refl, refl)

abbrev bare_young : List Event
bare_young =
    ack App ((1, 1) ∷ []) 100000 ∷
    sent App 1 0 1200 ∷
    bare App 0 0 100 ∷ []

-- Packet 0 is one number below and 100000 old, but sets no timer, as it is not in flight.
pub packet_not_in_flight_arms_no_timer :
    IsRun s bare_young × (deadline s bare_young ≡ None)
    × (first_broken s bare_young (loss_fires App 112500) ≡ Some rule.TimerNotSet)
unfolding first_broken
packet_not_in_flight_arms_no_timer = ((((tt, refl), refl), refl), refl, refl)

abbrev padded_below : List Event
padded_below =
    ack App ((4, 4) ∷ []) 100000 ∷
    sent App 4 0 1200 ∷
    padded App 3 0 1200 ∷
    padded App 0 0 1200 ∷ []

-- Both padded packets are in flight: packet 0, four numbers below, is lost at once; packet 3 sets the timer for 112500.
pub padded_packet_is_lost :
    IsRun s (lost App ((0, 0) ∷ []) 100000 ∷ padded_below)
    × (deadline s (lost App ((0, 0) ∷ []) 100000 ∷ padded_below) ≡ loss_at App 112500)
    × ((reno s padded_below).window ≡ 6000)
    × IsRun s (lost App ((3, 3) ∷ []) 112500 ∷ loss_fires App 112500 ∷ lost App ((0, 0) ∷ []) 100000 ∷ padded_below)
unfolding first_broken
padded_packet_is_lost = ((((((tt, refl), refl), refl), refl), refl), refl, refl, (((((((tt, refl), refl), refl), refl), refl), refl), refl))

abbrev padded_after_an_acknowledged_one : List Event
padded_after_an_acknowledged_one =
    padded App 1 100000 1200 ∷
    ack App ((0, 0) ∷ []) 100000 ∷
    sent App 0 0 1200 ∷
    Confirmed 0 ∷ []

-- The only open packet is padded: no probe timeout, though an ack-eliciting packet was sent before it.
pub padded_packet_awaits_no_acknowledgment :
    IsRun s padded_after_an_acknowledged_one × (deadline s padded_after_an_acknowledged_one ≡ None)
unfolding first_broken
padded_packet_awaits_no_acknowledgment = (((((tt, refl), refl), refl), refl), refl)

abbrev padded_alone : List Event
padded_alone =
    padded App 0 500 1200 ∷
    Confirmed 0 ∷ []

-- A padded packet sets no probe timeout, and is not the last ack-eliciting one: 0 + 999000 + 25000.
pub padded_packet_sets_no_probe_timeout :
    IsRun s padded_alone × (deadline s padded_alone ≡ None)
    × (deadline s (padded App 1 500 1200 ∷ sent App 0 0 1200 ∷ Confirmed 0 ∷ []) ≡ pto_at App 1024000)
unfolding first_broken
padded_packet_sets_no_probe_timeout = (((tt, refl), refl), refl, refl)

-- ---- a detection by an acknowledgment, by its exact fractions

-- Packet 1 takes 100001 and packet 0 is 112501 old, less than 112501.125: it is not lost. One microsecond later it is.
pub detection_is_by_the_exact_fraction :
    IsRun s (ack App ((1, 1) ∷ []) 112501 ∷ sent App 1 12500 1200 ∷ sent App 0 0 1200 ∷ [])
    × (owed s (ack App ((1, 1) ∷ []) 112501 ∷ sent App 1 12500 1200 ∷ sent App 0 0 1200 ∷ []) ≡ [])
    × IsRun s (lost App ((0, 0) ∷ []) 112502 ∷ ack App ((1, 1) ∷ []) 112502 ∷ sent App 1 12501 1200 ∷ sent App 0 0 1200 ∷ [])
unfolding first_broken
detection_is_by_the_exact_fraction = ((((tt, refl), refl), refl), refl, ((((tt, refl), refl), refl), refl))

abbrev faster_detection : List Event
faster_detection =
    ack App ((2, 2) ∷ []) 150000 ∷
    sent App 2 100000 1200 ∷
    sent App 1 80000 1200 ∷
    ack App ((0, 0) ∷ []) 80000 ∷
    sent App 0 0 1200 ∷ []

-- Samples 80000 and 50000: smoothed (560000 + 50000) / 8 = 76250, of which 9/8 is 85781.25. Packet 1 is 70000 old, past 9/8 of
-- latest (56250), and is not lost before 80000 + 85782.
pub detection_is_by_smoothed_where_it_is_above_latest :
    IsRun s faster_detection × (owed s faster_detection ≡ []) × (deadline s faster_detection ≡ loss_at App 165782)
unfolding first_broken
detection_is_by_smoothed_where_it_is_above_latest = ((((((tt, refl), refl), refl), refl), refl), refl, refl)

-- ---- where losses are looked for, and below which number

abbrev lower_acknowledged : ℕ → List Event
lower_acknowledged time =
    ack App ((0, 0) ∷ []) time ∷
    ack App ((2, 2) ∷ []) 100000 ∷
    sent App 2 0 1200 ∷
    sent App 1 0 1200 ∷
    padded App 0 0 1200 ∷ []

-- Packet 2 stays the largest acknowledged when packet 0, which is padded and gives no sample, is acknowledged after it: packet 1
-- awaits its time, 112500, and an acknowledgment of 0 that comes then finds it lost.
pub largest_acknowledged_is_of_all_acknowledgments :
    IsRun s (lower_acknowledged 100001) × (deadline s (lower_acknowledged 100001) ≡ loss_at App 112500)
    × IsRun s (lost App ((1, 1) ∷ []) 112500 ∷ lower_acknowledged 112500)
unfolding first_broken
largest_acknowledged_is_of_all_acknowledgments = ((((((tt, refl), refl), refl), refl), refl), refl, ((((((tt, refl), refl), refl), refl), refl), refl))

abbrev two_below : List Event
two_below =
    ack App ((2, 2) ∷ []) 105000 ∷
    sent App 2 5000 1200 ∷
    sent App 1 5000 1200 ∷
    sent App 0 0 1200 ∷ []

-- Two packets await their time, 0 + 112500 and 5000 + 112500: the timer is set for the first, and finds it alone.
pub loss_timer_is_of_the_first_packet :
    IsRun s two_below × (deadline s two_below ≡ loss_at App 112500)
    × IsRun s (lost App ((0, 0) ∷ []) 112500 ∷ loss_fires App 112500 ∷ two_below)
unfolding first_broken
loss_timer_is_of_the_first_packet = (((((tt, refl), refl), refl), refl), refl, ((((((tt, refl), refl), refl), refl), refl), refl))

-- The second acknowledgment is new for packet 1 alone, and not for its largest. It gives no sample, but looks for losses: packet 0
-- is 112500 old.
pub detection_where_the_largest_is_not_new :
    IsRun s (lost App ((0, 0) ∷ []) 112500 ∷ ack App ((1, 2) ∷ []) 112500 ∷ ack App ((2, 2) ∷ []) 100000
    ∷ sent App 2 0 1200 ∷ sent App 1 0 1200 ∷ sent App 0 0 1200 ∷ [])
unfolding first_broken
detection_where_the_largest_is_not_new = ((((((tt, refl), refl), refl), refl), refl), refl)

-- The same where packet 1 is not in flight.
pub detection_by_a_packet_that_is_not_in_flight :
    IsRun s (lost App ((0, 0) ∷ []) 112500 ∷ ack App ((1, 1) ∷ []) 112500 ∷ ack App ((2, 2) ∷ []) 100000
    ∷ sent App 2 0 1200 ∷ bare App 1 0 100 ∷ sent App 0 0 1200 ∷ [])
unfolding first_broken
detection_by_a_packet_that_is_not_in_flight = ((((((tt, refl), refl), refl), refl), refl), refl)

-- Edges of what a sender may choose in version 3: a window that it overshoots, samples of ack-eliciting packets alone, another packet
-- threshold, timers that are early, samples that are kept less the delay, another time threshold, and the unit of its log.
use Rattle.std.specs.Prelude.{◌≡◌, ℕ, true, false, List, [], ◌∷◌, Some, None, refl}
use Rattle.qa_base.specs.declared.event.Event.{Event}
use Rattle.qa_base.specs.declared.event.Event.TheVariants.{Confirmed}
use Rattle.qa_base.specs.declared.rule.Field.TheVariants as field
use Rattle.qa_base.specs.declared.rule.Rule.TheVariants as rule
use Rattle.qa_base.specs.declared.space.Space.TheVariants.{Initial, Handshake, App}
use Rattle.qa_base.specs.machine.Estimates.{rtt}
use Rattle.qa_base.specs.machine.Loss.{is_persistent, owed}
use Rattle.qa_base.specs.machine.Reno.{reno}
use Rattle.qa_base.specs.machine.Rules.{first_broken, IsRun}
use Rattle.qa_base.specs.machine.Timer.{deadline, pto_count}
use Rattle.qa_base.specs.values.Settings.{Settings, no_options}
use Rattle.qa_laws.proofs.Shorthand.{server, choosing, in_nanoseconds, sent, padded, bare, probe, recovery, ack, delayed_ack, lost, loss_fires, pto_fires, metrics}
use Rattle.qa_laws.proofs.edges.Deadlines.{loss_at, pto_at}

abbrev s : Settings
s = server 1200 12000

-- ---- a window that may be overshot

abbrev overshooting : Settings
overshooting = choosing (server 1200 2400) (record no_options { window_overshoot = true })

abbrev nearly_full : List Event
nearly_full =
    sent App 1 0 1199 ∷
    sent App 0 0 1200 ∷ []

-- Of 2400 bytes 2399 are in flight: one byte more fits, two do not. Where the window may be overshot, the window must not be full before,
-- whatever the size of the packet.
pub window_that_is_not_full_may_be_overshot :
    (first_broken (server 1200 2400) nearly_full (sent App 2 0 1) ≡ None)
    × (first_broken (server 1200 2400) nearly_full (sent App 2 0 2) ≡ Some rule.PastWindow)
    × (first_broken overshooting nearly_full (sent App 2 0 1) ≡ None)
    × (first_broken overshooting nearly_full (sent App 2 0 1200) ≡ None)
    × (first_broken overshooting nearly_full (padded App 2 0 1200) ≡ None)
    × (first_broken overshooting (sent App 2 0 1 ∷ nearly_full) (sent App 3 0 1) ≡ Some rule.PastWindow)
    × (first_broken overshooting (sent App 2 0 1200 ∷ nearly_full) (padded App 3 0 1) ≡ Some rule.PastWindow)
    × (first_broken overshooting (sent App 2 0 1200 ∷ nearly_full) (bare App 3 0 1) ≡ None)
unfolding first_broken
window_that_is_not_full_may_be_overshot = (refl, refl, refl, refl, refl, refl, refl, refl)

-- A probe still needs a probe timeout, and a packet for recovery an entry.
pub marks_are_not_overshot :
    (first_broken overshooting nearly_full (probe App 2 0 1) ≡ Some rule.PastProbe)
    × (first_broken overshooting nearly_full (recovery App 2 0 1) ≡ Some rule.PastRecovery)
unfolding first_broken
marks_are_not_overshot = (refl, refl)

-- ---- samples of ack-eliciting packets alone

abbrev selective : Settings
selective = choosing s (record no_options { sample_eliciting_only = true })

abbrev padded_largest : List Event
padded_largest =
    ack App ((0, 1) ∷ []) 100000 ∷
    padded App 1 0 1200 ∷
    sent App 0 0 1200 ∷ []

abbrev eliciting_largest : List Event
eliciting_largest =
    ack App ((0, 1) ∷ []) 100000 ∷
    sent App 1 0 1200 ∷
    padded App 0 0 1200 ∷ []

abbrev old_largest : List Event
old_largest =
    ack App ((0, 1) ∷ []) 150000 ∷
    ack App ((1, 1) ∷ []) 100000 ∷
    sent App 1 0 1200 ∷
    sent App 0 0 1200 ∷ []

-- Packet 1, the largest, is padded, and packet 0 with it is ack-eliciting: a sample (RFC 9002, section 5.1), unless the sender samples
-- ack-eliciting packets alone. Then the packet with the largest number has to be one.
pub largest_packet_must_be_ack_eliciting :
    IsRun s padded_largest
    × ((rtt s padded_largest).latest_rtt ≡ 100000)
    × IsRun selective padded_largest
    × ((rtt selective padded_largest).latest_rtt ≡ 0)
    × ((rtt selective padded_largest).first_rtt_sample ≡ None)
    × ((rtt s eliciting_largest).latest_rtt ≡ 100000)
    × ((rtt selective eliciting_largest).latest_rtt ≡ 100000)
unfolding first_broken
largest_packet_must_be_ack_eliciting = ((((tt, refl), refl), refl), refl, (((tt, refl), refl), refl), refl, refl, refl, refl)

-- Packet 1 was acknowledged before: packet 0 alone gives no second sample, so that the first stays, of 100000.
pub largest_packet_must_be_new_in_any_case :
    ((rtt s old_largest).latest_rtt ≡ 100000)
    × ((rtt selective old_largest).latest_rtt ≡ 100000)
unfolding first_broken
largest_packet_must_be_new_in_any_case = (refl, refl)

abbrev probed : List Event
probed =
    ack App ((0, 1) ∷ []) 1100000 ∷
    padded App 1 1024000 1200 ∷
    pto_fires App 1024000 ∷
    sent App 0 0 1200 ∷
    Confirmed 0 ∷ []

-- All else goes by what is newly acknowledged: the count of probe timeouts is 0 again, and the window grows by both.
pub acknowledgment_without_a_sample_resets_the_count :
    IsRun selective probed
    × (pto_count selective probed ≡ 0)
    × ((rtt selective probed).latest_rtt ≡ 0)
    × ((reno selective probed).window ≡ 14400)
unfolding first_broken
acknowledgment_without_a_sample_resets_the_count = ((((((tt, refl), refl), refl), refl), refl), refl, refl, refl)

-- ---- another packet threshold

abbrev patient : Settings
patient = choosing s (record no_options { packet_threshold = 4 })

abbrev three_below : List Event
three_below =
    ack App ((3, 3) ∷ []) 100000 ∷
    sent App 3 0 1200 ∷
    sent App 2 0 1200 ∷
    sent App 1 0 1200 ∷
    sent App 0 0 1200 ∷ []

abbrev four_below : List Event
four_below =
    ack App ((4, 4) ∷ []) 100000 ∷
    sent App 4 0 1200 ∷
    sent App 3 0 1200 ∷
    sent App 2 0 1200 ∷
    sent App 1 0 1200 ∷
    sent App 0 0 1200 ∷ []

-- Three below the largest acknowledged number, packet 0 is not lost where the threshold is 4: it awaits the loss timer with the others.
-- Four below it is lost, and packet 1, three below, is not.
pub packet_at_the_threshold_is_lost :
    IsRun patient three_below
    × (owed patient three_below ≡ [])
    × (deadline patient three_below ≡ loss_at App 112500)
    × (first_broken patient three_below (lost App ((0, 0) ∷ []) 100000) ≡ Some rule.LossNotOwed)
    × (first_broken s three_below (lost App ((0, 0) ∷ []) 100000) ≡ None)
    × (first_broken patient four_below (lost App ((0, 0) ∷ []) 100000) ≡ None)
    × (first_broken patient four_below (lost App ((0, 1) ∷ []) 100000) ≡ Some rule.LossSet)
    × (first_broken s four_below (lost App ((0, 1) ∷ []) 100000) ≡ None)
    × IsRun patient (lost App ((0, 2) ∷ []) 112500 ∷ loss_fires App 112500 ∷ three_below)
unfolding first_broken
packet_at_the_threshold_is_lost = ((((((tt, refl), refl), refl), refl), refl), refl, refl, refl, refl, refl, refl, refl, (((((((tt, refl), refl), refl), refl), refl), refl), refl))

-- ---- timers that are early

abbrev hasty : Settings
hasty = choosing s (record no_options { timer_early_us = 10 })

abbrev awaiting : List Event
awaiting =
    ack App ((2, 2) ∷ []) 100001 ∷
    sent App 2 1 1200 ∷
    sent App 1 1 1200 ∷
    sent App 0 0 1200 ∷ []

-- Packet 2 samples 100000. Packet 0 is old at 112500, and packet 1 a microsecond later. The timer may go off ten before, and finds packet 0
-- alone, as at its deadline; a microsecond behind it finds both. Recovery begins at the time of the event.
pub early_loss_timer_looks_as_of_its_deadline :
    IsRun hasty (lost App ((0, 0) ∷ []) 112490 ∷ loss_fires App 112490 ∷ awaiting)
    × (first_broken hasty awaiting (loss_fires App 112489) ≡ Some rule.TimerEarly)
    × (first_broken s awaiting (loss_fires App 112499) ≡ Some rule.TimerEarly)
    × (first_broken hasty (loss_fires App 112490 ∷ awaiting) (lost App ((0, 1) ∷ []) 112490) ≡ Some rule.LossSet)
    × (first_broken hasty (loss_fires App 112500 ∷ awaiting) (lost App ((0, 1) ∷ []) 112500) ≡ Some rule.LossSet)
    × IsRun hasty (lost App ((0, 1) ∷ []) 112501 ∷ loss_fires App 112501 ∷ awaiting)
    × ((reno hasty (loss_fires App 112490 ∷ awaiting)).recovery_start_time ≡ Some 112490)
    × (deadline hasty (lost App ((0, 0) ∷ []) 112490 ∷ loss_fires App 112490 ∷ awaiting) ≡ loss_at App 112501)
unfolding first_broken
early_loss_timer_looks_as_of_its_deadline = (((((((tt, refl), refl), refl), refl), refl), refl), refl, refl, refl, refl, ((((((tt, refl), refl), refl), refl), refl), refl), refl, refl)

-- A probe timeout may be as early: it is set for 999000.
pub early_probe_timeout :
    (first_broken hasty (sent Initial 0 0 1200 ∷ []) (pto_fires Initial 998990) ≡ None)
    × (first_broken hasty (sent Initial 0 0 1200 ∷ []) (pto_fires Initial 998989) ≡ Some rule.TimerEarly)
    × (first_broken s (sent Initial 0 0 1200 ∷ []) (pto_fires Initial 998999) ≡ Some rule.TimerEarly)
unfolding first_broken
early_probe_timeout = (refl, refl, refl)

abbrev two_spaces : List Event
two_spaces =
    sent Handshake 0 1 1200 ∷
    sent Initial 0 0 1200 ∷ []

-- Of two spaces within the tolerance the one that is due first fires first, and no probe timeout in place of a loss timer.
pub early_timer_is_that_of_the_deadline :
    (first_broken hasty two_spaces (pto_fires Handshake 998995) ≡ Some rule.TimerOther)
    × (first_broken hasty two_spaces (pto_fires Initial 998995) ≡ None)
    × (first_broken hasty awaiting (pto_fires App 112490) ≡ Some rule.TimerOther)
unfolding first_broken
early_timer_is_that_of_the_deadline = (refl, refl, refl)

abbrev hasty_and_late : Settings
hasty_and_late = choosing s (record no_options { timer_early_us = 10; timer_late = Some 0 })

-- A timer that may be early is late as ever, from the deadline on.
pub late_is_counted_from_the_deadline :
    (first_broken hasty_and_late awaiting (loss_fires App 112500) ≡ None)
    × (first_broken hasty_and_late awaiting (loss_fires App 112501) ≡ Some rule.TimerLate)
unfolding first_broken
late_is_counted_from_the_deadline = (refl, refl)

-- ---- samples that are kept less the delay

abbrev less : Settings
less = choosing s (record no_options { latest_rtt_less_delay = true })

abbrev delayed : ℕ → List Event
delayed delay =
    delayed_ack App ((1, 1) ∷ []) 220000 delay ∷
    sent App 1 100000 1200 ∷
    delayed_ack App ((0, 0) ∷ []) 100000 20000 ∷
    sent App 0 0 1200 ∷ []

-- The first sample, 100000, is kept whole. Of the second, 120000, a delay of 20000 leaves min_rtt, and one more would leave less.
pub latest_is_less_the_delay :
    (rtt less (delayed 20000) ≡ record { latest_rtt = 100000; min_rtt = 100000; smoothed_rtt = 100000; rttvar = 37500; first_rtt_sample = Some 100000 })
    × (rtt less (delayed 20001) ≡ record { latest_rtt = 120000; min_rtt = 100000; smoothed_rtt = 102500; rttvar = 42500; first_rtt_sample = Some 100000 })
    × (rtt s (delayed 20000) ≡ record { latest_rtt = 120000; min_rtt = 100000; smoothed_rtt = 100000; rttvar = 37500; first_rtt_sample = Some 100000 })
    × IsRun less (delayed 20000)
unfolding first_broken
latest_is_less_the_delay = (refl, refl, refl, ((((tt, refl), refl), refl), refl))

abbrev aged : List Event
aged =
    delayed_ack App ((2, 2) ∷ []) 240000 40000 ∷
    sent App 2 100000 1200 ∷
    sent App 1 100000 1200 ∷
    ack App ((0, 0) ∷ []) 100000 ∷
    sent App 0 0 1200 ∷ []

-- Packet 1 is 140000 old: more than 9/8 of 100000, the sample less the delay, and less than 9/8 of 140000, the sample itself.
pub loss_delay_is_by_the_latest_less_the_delay :
    (first_broken less aged (lost App ((1, 1) ∷ []) 240000) ≡ None)
    × (first_broken s aged (lost App ((1, 1) ∷ []) 240000) ≡ Some rule.LossNotOwed)
unfolding first_broken
loss_delay_is_by_the_latest_less_the_delay = (refl, refl)

-- ---- another time threshold

abbrev unhurried : ℕ → Settings
unhurried eighths = choosing s (record no_options { time_threshold_eighths = eighths })

abbrev odd : List Event
odd =
    ack App ((1, 1) ∷ []) 100001 ∷
    sent App 1 0 1200 ∷
    sent App 0 0 1200 ∷ []

-- 9/8 of 100001 is 112501.125, 10/8 of it 125001.25, and 32/8 of it 400004.
pub loss_delay_is_by_the_time_threshold :
    (deadline (unhurried 9) odd ≡ loss_at App 112502)
    × (deadline (unhurried 10) odd ≡ loss_at App 125002)
    × (deadline (unhurried 32) odd ≡ loss_at App 400004)
    × (first_broken (unhurried 10) odd (loss_fires App 125001) ≡ Some rule.TimerEarly)
    × IsRun (unhurried 10) (lost App ((0, 0) ∷ []) 125002 ∷ loss_fires App 125002 ∷ odd)
unfolding first_broken
loss_delay_is_by_the_time_threshold = (refl, refl, refl, refl, (((((tt, refl), refl), refl), refl), refl))

-- ---- the unit of the log

abbrev fine : Settings
fine = in_nanoseconds s

abbrev tolerant : Settings
tolerant = choosing fine (record no_options { timer_late = Some 1; timer_early_us = 1; report_slack_us = 1; report_slack_bytes = 1 })

abbrev quick : List Event
quick =
    ack App ((1, 1) ∷ []) 100 ∷
    sent App 1 0 1200 ∷
    sent App 0 0 1200 ∷ []

-- 9/8 of 100 is 113, less than the granularity: 1000 microseconds, or 1000000 nanoseconds. Before a sample a probe timeout is 999 milliseconds.
pub granularity_is_a_millisecond_in_either_unit :
    (deadline s quick ≡ loss_at App 1000)
    × (deadline fine quick ≡ loss_at App 1000000)
    × (first_broken fine quick (loss_fires App 999999) ≡ Some rule.TimerEarly)
    × IsRun fine (lost App ((0, 0) ∷ []) 1000000 ∷ loss_fires App 1000000 ∷ quick)
    × (deadline fine (sent Initial 0 0 1200 ∷ []) ≡ pto_at Initial 999000000)
unfolding first_broken
granularity_is_a_millisecond_in_either_unit = (refl, refl, refl, (((((tt, refl), refl), refl), refl), refl), refl)

abbrev steady_until : ℕ → List Event
steady_until second =
    ack App ((5, 5) ∷ []) 78000601 ∷
    padded App 5 78000501 1200 ∷
    sent App 2 second 1200 ∷
    sent App 1 200 1200 ∷
    ack App ((0, 0) ∷ []) 100 ∷
    sent App 0 0 1200 ∷ []

-- After a sample of 100 the duration of persistent congestion is 3 * (100 + 1000000 + 25000000) = 78000300: so far apart two packets do not
-- make it, and one more they do.
pub granularity_in_the_duration_in_nanoseconds :
    IsRun fine (steady_until 78000500)
    × (is_persistent fine (steady_until 78000500) ≡ false)
    × IsRun fine (steady_until 78000501)
    × (is_persistent fine (steady_until 78000501) ≡ true)
unfolding first_broken
granularity_in_the_duration_in_nanoseconds = (((((((tt, refl), refl), refl), refl), refl), refl), refl, ((((((tt, refl), refl), refl), refl), refl), refl), refl)

-- One microsecond is 1000 nanoseconds, for a timer that is early or late and for reported times; bytes are bytes.
pub tolerances_are_in_microseconds_in_either_unit :
    (first_broken tolerant quick (loss_fires App 999000) ≡ None)
    × (first_broken tolerant quick (loss_fires App 998999) ≡ Some rule.TimerEarly)
    × (first_broken tolerant quick (loss_fires App 1001000) ≡ None)
    × (first_broken tolerant quick (loss_fires App 1001001) ≡ Some rule.TimerLate)
    × (first_broken tolerant quick (metrics 100 None None None (Some 1100) None None None) ≡ None)
    × (first_broken tolerant quick (metrics 100 None None None (Some 1101) None None None) ≡ Some (rule.Metric field.LatestRtt))
    × (first_broken tolerant quick (metrics 100 (Some 13201) None None None None None None) ≡ None)
    × (first_broken tolerant quick (metrics 100 (Some 13202) None None None None None None) ≡ Some (rule.Metric field.Window))
unfolding first_broken
tolerances_are_in_microseconds_in_either_unit = (refl, refl, refl, refl, refl, refl, refl, refl)

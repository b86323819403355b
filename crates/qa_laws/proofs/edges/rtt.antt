-- Edges of the round-trip time (RFC 9002, section 5).
use Rattle.std.specs.Prelude.{◌≡◌, List, [], ◌∷◌, Some, None, refl}
use Rattle.qa_base.specs.declared.event.Event.{Event}
use Rattle.qa_base.specs.declared.event.Event.TheVariants.{Confirmed}
use Rattle.qa_base.specs.declared.header.Version.TheVariants.{One}
use Rattle.qa_base.specs.declared.space.Role.TheVariants as role
use Rattle.qa_base.specs.declared.space.Space.TheVariants.{Initial, Handshake, App}
use Rattle.qa_base.specs.machine.Estimates.{rtt}
use Rattle.qa_base.specs.machine.Reno.{reno}
use Rattle.qa_base.specs.machine.Rules.{first_broken, IsRun}
use Rattle.qa_base.specs.declared.space.TimeUnit.TheVariants.{Microseconds}
use Rattle.qa_base.specs.values.Settings.{Settings, no_options}
use Rattle.qa_laws.proofs.Shorthand.{server, sent, padded, bare, ack, delayed_ack}

abbrev s : Settings
s = server 1200 12000

-- ---- when there is a sample (section 5.1)

abbrev largest_known : List Event
largest_known =
    ack App ((0, 1) ∷ []) 110000 ∷
    ack App ((1, 1) ∷ []) 100000 ∷
    sent App 1 0 1200 ∷
    sent App 0 0 1200 ∷ []

-- The second acknowledgment is new for packet 0 alone, not for 1, its largest: the window grows twice, the sample is the first.
pub no_sample_where_the_largest_is_not_new :
    IsRun s largest_known × ((reno s largest_known).window ≡ 14400)
    × (rtt s largest_known ≡ record { latest_rtt = 100000; min_rtt = 100000; smoothed_rtt = 100000; rttvar = 50000; first_rtt_sample = Some 100000 })
unfolding first_broken
no_sample_where_the_largest_is_not_new = (((((tt, refl), refl), refl), refl), refl, refl)

abbrev largest_bare : List Event
largest_bare =
    ack App ((0, 1) ∷ []) 100000 ∷
    bare App 1 40000 100 ∷
    sent App 0 0 1200 ∷ []

-- The largest is not in flight, but packet 0 with it is ack-eliciting: the sample is the time since the largest was sent.
pub sample_is_of_the_largest_by_any_ack_eliciting_packet :
    IsRun s largest_bare
    × (rtt s largest_bare ≡ record { latest_rtt = 60000; min_rtt = 60000; smoothed_rtt = 60000; rttvar = 30000; first_rtt_sample = Some 100000 })
unfolding first_broken
sample_is_of_the_largest_by_any_ack_eliciting_packet = ((((tt, refl), refl), refl), refl)

abbrev nothing_eliciting : List Event
nothing_eliciting =
    ack App ((0, 1) ∷ []) 100000 ∷
    bare App 1 0 100 ∷
    padded App 0 0 1200 ∷ []

-- Neither packet is ack-eliciting: no sample, but the padded one grows the window.
pub no_sample_without_an_ack_eliciting_packet :
    IsRun s nothing_eliciting × ((reno s nothing_eliciting).window ≡ 13200)
    × (rtt s nothing_eliciting ≡ record { latest_rtt = 0; min_rtt = 0; smoothed_rtt = 333000; rttvar = 166500; first_rtt_sample = None })
unfolding first_broken
no_sample_without_an_ack_eliciting_packet = ((((tt, refl), refl), refl), refl, refl)

abbrev at_once : List Event
at_once =
    ack App ((1, 1) ∷ []) 900 ∷
    sent App 1 500 1200 ∷
    ack App ((0, 0) ∷ []) 0 ∷
    sent App 0 0 1200 ∷ []

-- A sample of 0 at time 0 is a sample: the one of 400 after it is a later one, smoothed 400 / 8, rttvar 400 / 4.
pub sample_of_nothing_is_a_sample :
    IsRun s at_once × (rtt s at_once ≡ record { latest_rtt = 400; min_rtt = 0; smoothed_rtt = 50; rttvar = 100; first_rtt_sample = Some 0 })
unfolding first_broken
sample_of_nothing_is_a_sample = (((((tt, refl), refl), refl), refl), refl)

-- ---- the peer's delay (section 5.3)

abbrev first_delayed : List Event
first_delayed =
    delayed_ack App ((0, 0) ∷ []) 100000 10000 ∷
    sent App 0 0 1200 ∷ []

-- From the first sample no delay is taken off.
pub first_sample_ignores_the_delay :
    IsRun s first_delayed
    × (rtt s first_delayed ≡ record { latest_rtt = 100000; min_rtt = 100000; smoothed_rtt = 100000; rttvar = 50000; first_rtt_sample = Some 100000 })
unfolding first_broken
first_sample_ignores_the_delay = (((tt, refl), refl), refl)

abbrev second_sent : List Event
second_sent =
    sent App 1 100000 1200 ∷
    first_delayed

-- After 110000 the delay of 10000 leaves just the least, 100000, and is taken off: rttvar 150000 / 4, smoothed 100000. After
-- 109999 it is not: rttvar (150000 + 9999) / 4 = 39999, smoothed (700000 + 109999) / 8 = 101249, both rounded down.
pub delay_that_leaves_the_least_is_taken_off :
    IsRun s (delayed_ack App ((1, 1) ∷ []) 210000 10000 ∷ second_sent)
    × (rtt s (delayed_ack App ((1, 1) ∷ []) 210000 10000 ∷ second_sent)
    ≡ record { latest_rtt = 110000; min_rtt = 100000; smoothed_rtt = 100000; rttvar = 37500; first_rtt_sample = Some 100000 })
    × IsRun s (delayed_ack App ((1, 1) ∷ []) 209999 10000 ∷ second_sent)
    × (rtt s (delayed_ack App ((1, 1) ∷ []) 209999 10000 ∷ second_sent)
    ≡ record { latest_rtt = 109999; min_rtt = 100000; smoothed_rtt = 101249; rttvar = 39999; first_rtt_sample = Some 100000 })
unfolding first_broken
delay_that_leaves_the_least_is_taken_off = (((((tt, refl), refl), refl), refl), refl, ((((tt, refl), refl), refl), refl), refl)

-- A sample below the least sets it: min 50000, rttvar (150000 + 50000) / 4 = 50000, smoothed (700000 + 50000) / 8 = 93750.
pub sample_below_the_least_sets_it :
    rtt s (delayed_ack App ((1, 1) ∷ []) 150000 10000 ∷ second_sent)
    ≡ record { latest_rtt = 50000; min_rtt = 50000; smoothed_rtt = 93750; rttvar = 50000; first_rtt_sample = Some 100000 }
sample_below_the_least_sets_it = refl

-- ---- what is rounded (section 5.3)

abbrev odd_start : Settings
odd_start = record { role = role.Server; unit = Microseconds; max_datagram_size = 1200; max_ack_delay = 25000; initial_rtt = 333333; initial_window = 12000; version = One; options = no_options }

-- Half of 100001 is 50000, rounded down, and so is half of the initial RTT of 333333: 166666.
pub first_variation_is_rounded_down :
    (rtt s (ack App ((0, 0) ∷ []) 100001 ∷ sent App 0 0 1200 ∷ [])
    ≡ record { latest_rtt = 100001; min_rtt = 100001; smoothed_rtt = 100001; rttvar = 50000; first_rtt_sample = Some 100001 })
    × (rtt odd_start [] ≡ record { latest_rtt = 0; min_rtt = 0; smoothed_rtt = 333333; rttvar = 166666; first_rtt_sample = None })
first_variation_is_rounded_down = (refl, refl)

abbrev odd_samples : List Event
odd_samples =
    ack App ((1, 1) ∷ []) 200005 ∷
    sent App 1 100002 1200 ∷
    ack App ((0, 0) ∷ []) 100002 ∷
    sent App 0 0 1200 ∷ []

-- Samples 100002 and 100003. Smoothed is (700014 + 100003) / 8 = 800017 / 8 = 100002; by 700014 / 8 = 87501 and 100003 / 8 = 12500
-- it would be 100001. The variation is (150003 + 1) / 4 = 37501; by 150003 / 4 = 37500 and 1 / 4 = 0 it would be 37500.
pub terms_are_added_before_they_are_divided :
    IsRun s odd_samples
    × (rtt s odd_samples ≡ record { latest_rtt = 100003; min_rtt = 100002; smoothed_rtt = 100002; rttvar = 37501; first_rtt_sample = Some 100002 })
unfolding first_broken
terms_are_added_before_they_are_divided = (((((tt, refl), refl), refl), refl), refl)

-- ---- the delay in the spaces of the handshake (section 5.3)

abbrev initial_delayed : List Event
initial_delayed =
    delayed_ack Initial ((1, 1) ∷ []) 220000 10000 ∷
    sent Initial 1 100000 1200 ∷
    ack Initial ((0, 0) ∷ []) 100000 ∷
    sent Initial 0 0 1200 ∷ []

-- The delay on the line counts in Initial, too: 120000 - 10000, so rttvar (150000 + 10000) / 4 = 40000 and smoothed
-- (700000 + 110000) / 8 = 101250.
pub delay_in_initial_is_taken_off :
    IsRun s initial_delayed
    × (rtt s initial_delayed ≡ record { latest_rtt = 120000; min_rtt = 100000; smoothed_rtt = 101250; rttvar = 40000; first_rtt_sample = Some 100000 })
unfolding first_broken
delay_in_initial_is_taken_off = (((((tt, refl), refl), refl), refl), refl)

abbrev handshake_delayed : List Event → List Event
handshake_delayed before =
    delayed_ack Handshake ((1, 1) ∷ []) 250000 30000 ∷
    sent Handshake 1 100000 1200 ∷
    ack Handshake ((0, 0) ∷ []) 100000 ∷
    sent Handshake 0 0 1200 ∷
    before

-- Once confirmed, a delay of 30000 counts as 25000 in Handshake, too: 125000, so rttvar (150000 + 25000) / 4 = 43750 and smoothed
-- (700000 + 125000) / 8 = 103125. Unconfirmed it is 120000: (150000 + 20000) / 4 = 42500, (700000 + 120000) / 8 = 102500.
pub delay_in_handshake_is_limited_once_confirmed :
    IsRun s (handshake_delayed (Confirmed 0 ∷ []))
    × (rtt s (handshake_delayed (Confirmed 0 ∷ []))
    ≡ record { latest_rtt = 150000; min_rtt = 100000; smoothed_rtt = 103125; rttvar = 43750; first_rtt_sample = Some 100000 })
    × IsRun s (handshake_delayed [])
    × (rtt s (handshake_delayed [])
    ≡ record { latest_rtt = 150000; min_rtt = 100000; smoothed_rtt = 102500; rttvar = 42500; first_rtt_sample = Some 100000 })
unfolding first_broken
delay_in_handshake_is_limited_once_confirmed = ((((((tt, refl), refl), refl), refl), refl), refl, ((((tt, refl), refl), refl), refl), refl)

-- Edges of the PTO count and of probe timeouts (RFC 9002, section 6.2.1).
--
-- Before any sample a probe timeout is 333000 + 4 * 166500 = 999000.
use Rattle.std.specs.Prelude.{◌≡◌, false, List, [], ◌∷◌, Some, None, refl}
use Rattle.qa_base.specs.declared.event.Event.{Event}
use Rattle.qa_base.specs.declared.event.Event.TheVariants.{Discard, Confirmed, Keys}
use Rattle.qa_base.specs.declared.rule.Rule.TheVariants as rule
use Rattle.qa_base.specs.declared.space.Space.TheVariants.{Initial, Handshake, App}
use Rattle.qa_base.specs.machine.Handshake.{is_validated}
use Rattle.qa_base.specs.machine.Rules.{first_broken, IsRun}
use Rattle.qa_base.specs.values.Settings.{Settings}
use Rattle.qa_base.specs.machine.Timer.{pto_count, deadline}
use Rattle.qa_laws.proofs.Shorthand.{client, server, sent, bare, probe, ack, lost, loss_fires, pto_fires, metrics}
use Rattle.qa_laws.proofs.edges.Deadlines.{loss_at, pto_at}

abbrev c : Settings
c = client 1200 12000

abbrev s : Settings
s = server 1200 12000

-- ---- what resets the count

abbrev handshake_probe : List Event
handshake_probe =
    lost Handshake ((0, 0) ∷ []) 1099000 ∷
    ack Handshake ((1, 1) ∷ []) 1099000 ∷
    probe Handshake 1 999000 1200 ∷
    pto_fires Handshake 999000 ∷
    sent Handshake 0 0 1200 ∷ []

-- The acknowledgment of a Handshake packet validates the client's address, and itself sets the count from 1 to 0.
pub handshake_acknowledgment_validates_by_itself :
    IsRun c handshake_probe × (pto_count c handshake_probe ≡ 0)
    × (is_validated c (probe Handshake 1 999000 1200 ∷ pto_fires Handshake 999000 ∷ sent Handshake 0 0 1200 ∷ []) ≡ false)
    × (pto_count c (probe Handshake 1 999000 1200 ∷ pto_fires Handshake 999000 ∷ sent Handshake 0 0 1200 ∷ []) ≡ 1)
unfolding first_broken
handshake_acknowledgment_validates_by_itself = ((((((tt, refl), refl), refl), refl), refl), refl, refl, refl)

abbrev one_timeout : List Event
one_timeout =
    sent Initial 1 999000 1200 ∷
    pto_fires Initial 999000 ∷
    sent Initial 0 0 1200 ∷ []

-- A discard sets the count to 0; neither Confirmed nor Keys does, nor an acknowledgment of Initial by itself.
pub discard_resets_the_count :
    IsRun c (Discard 1000000 Initial ∷ one_timeout) × (pto_count c (Discard 1000000 Initial ∷ one_timeout) ≡ 0)
    × IsRun c (Confirmed 1000000 ∷ one_timeout) × (pto_count c (Confirmed 1000000 ∷ one_timeout) ≡ 1)
    × IsRun c (Keys 1000000 ∷ one_timeout) × (pto_count c (Keys 1000000 ∷ one_timeout) ≡ 1)
    × IsRun c (ack Initial ((0, 0) ∷ []) 1000000 ∷ one_timeout) × (pto_count c (ack Initial ((0, 0) ∷ []) 1000000 ∷ one_timeout) ≡ 1)
unfolding first_broken
discard_resets_the_count = (((((tt, refl), refl), refl), refl), refl, ((((tt, refl), refl), refl), refl), refl, ((((tt, refl), refl), refl), refl), refl, ((((tt, refl), refl), refl), refl), refl)

-- Once Confirmed stands before it, the acknowledgment of Initial sets the count to 0; one of nothing new does not.
pub acknowledgment_after_confirmed_resets_the_count :
    IsRun c (ack Initial ((0, 0) ∷ []) 1000000 ∷ Confirmed 1000000 ∷ one_timeout)
    × (pto_count c (ack Initial ((0, 0) ∷ []) 1000000 ∷ Confirmed 1000000 ∷ one_timeout) ≡ 0)
    × IsRun c (ack Initial ((0, 0) ∷ []) 1000001 ∷ Confirmed 1000001 ∷ ack Initial ((0, 0) ∷ []) 1000000 ∷ one_timeout)
    × (pto_count c (ack Initial ((0, 0) ∷ []) 1000001 ∷ Confirmed 1000001 ∷ ack Initial ((0, 0) ∷ []) 1000000 ∷ one_timeout) ≡ 1)
unfolding first_broken
acknowledgment_after_confirmed_resets_the_count = ((((((tt, refl), refl), refl), refl), refl), refl, ((((((tt, refl), refl), refl), refl), refl), refl), refl)

abbrev both_lost : List Event
both_lost =
    lost Initial ((1, 1) ∷ []) 1000125 ∷
    loss_fires Initial 1000125 ∷
    lost Initial ((0, 0) ∷ []) 1000000 ∷
    ack Initial ((2, 2) ∷ []) 1000000 ∷
    sent Initial 2 999000 1200 ∷
    one_timeout

-- Nor does a packet, a report, a Lost line or a loss timer, of a client that is not validated. The sample of packet 2 is 1000: packet
-- 0 is lost at once, and packet 1 at 999000 + 1125.
pub other_events_leave_the_count :
    IsRun c both_lost × (pto_count c both_lost ≡ 1) × (pto_count c one_timeout ≡ 1)
    × (pto_count c (metrics 1000000 (Some 12000) None None None None None None ∷ one_timeout) ≡ 1)
unfolding first_broken
other_events_leave_the_count = (((((((((tt, refl), refl), refl), refl), refl), refl), refl), refl), refl, refl, refl)

abbrev after_a_loss_timer : List Event
after_a_loss_timer =
    lost App ((0, 0) ∷ []) 112500 ∷
    loss_fires App 112500 ∷
    ack App ((1, 1) ∷ []) 100000 ∷
    sent App 1 0 1200 ∷
    sent App 0 0 1200 ∷ []

-- A loss timer adds nothing to the count.
pub loss_timer_is_not_counted : IsRun s after_a_loss_timer × (pto_count s after_a_loss_timer ≡ 0)
unfolding first_broken
loss_timer_is_not_counted = ((((((tt, refl), refl), refl), refl), refl), refl)

-- ---- the peer's max_ack_delay

abbrev app_timeouts : List Event
app_timeouts =
    sent App 2 3072000 1200 ∷
    pto_fires App 3072000 ∷
    sent App 1 1024000 1200 ∷
    pto_fires App 1024000 ∷
    sent App 0 0 1200 ∷
    Confirmed 0 ∷ []

-- The delay of 25000 is doubled with the rest: 0 + 1024000, then 1024000 + 2 * 1024000, then 3072000 + 4 * 1024000.
pub peer_delay_is_doubled :
    IsRun s app_timeouts
    × (first_broken s (sent App 1 1024000 1200 ∷ pto_fires App 1024000 ∷ sent App 0 0 1200 ∷ Confirmed 0 ∷ []) (pto_fires App 3071999)
    ≡ Some rule.TimerEarly)
    × (deadline s app_timeouts ≡ pto_at App 7168000)
unfolding first_broken
peer_delay_is_doubled = (((((((tt, refl), refl), refl), refl), refl), refl), refl, refl)

-- The delay is not added in Initial and Handshake, also once the handshake is confirmed.
pub peer_delay_is_of_app_alone :
    (deadline s (sent Handshake 0 0 1200 ∷ Confirmed 0 ∷ []) ≡ pto_at Handshake 999000)
    × (deadline s (sent Initial 0 0 1200 ∷ Confirmed 0 ∷ []) ≡ pto_at Initial 999000)
peer_delay_is_of_app_alone = (refl, refl)

abbrev steady : List Event
steady =
    sent App 1 100 1200 ∷
    ack App ((0, 0) ∷ []) 100 ∷
    sent App 0 0 1200 ∷
    Confirmed 0 ∷ []

-- After a sample of 100, four times the variation of 50 is less than the granularity: 100 + (100 + 1000 + 25000).
pub granularity_in_the_probe_timeout :
    IsRun s steady × (deadline s steady ≡ pto_at App 26200)
    × (first_broken s steady (pto_fires App 26199) ≡ Some rule.TimerEarly) × IsRun s (pto_fires App 26200 ∷ steady)
unfolding first_broken
granularity_in_the_probe_timeout = (((((tt, refl), refl), refl), refl), refl, refl, (((((tt, refl), refl), refl), refl), refl))

-- ---- several spaces

abbrev two_spaces : List Event
two_spaces =
    sent Initial 0 0 1200 ∷
    sent Handshake 0 0 1200 ∷ []

-- Both timeouts are at 999000: that of Initial counts.
pub initial_before_handshake_at_equal_times :
    IsRun s two_spaces × (deadline s two_spaces ≡ pto_at Initial 999000)
    × (first_broken s two_spaces (pto_fires Handshake 999000) ≡ Some rule.TimerOther)
    × IsRun s (pto_fires Initial 999000 ∷ two_spaces)
    × (deadline s (sent Initial 0 1 1200 ∷ sent Handshake 0 0 1200 ∷ []) ≡ pto_at Handshake 999000)
unfolding first_broken
initial_before_handshake_at_equal_times = (((tt, refl), refl), refl, refl, (((tt, refl), refl), refl), refl)

abbrev handshake_and_app : List Event
handshake_and_app =
    sent Handshake 0 25000 1200 ∷
    sent App 0 0 1200 ∷
    Confirmed 0 ∷ []

-- 25000 + 999000 and 0 + 999000 + 25000 are equal: Handshake counts. One microsecond later it is App.
pub handshake_before_app_at_equal_times :
    IsRun s handshake_and_app × (deadline s handshake_and_app ≡ pto_at Handshake 1024000)
    × (first_broken s handshake_and_app (pto_fires App 1024000) ≡ Some rule.TimerOther)
    × (deadline s (sent Handshake 0 25001 1200 ∷ sent App 0 0 1200 ∷ Confirmed 0 ∷ []) ≡ pto_at App 1024000)
unfolding first_broken
handshake_before_app_at_equal_times = ((((tt, refl), refl), refl), refl, refl, refl)

abbrev late_loss : List Event
late_loss =
    ack App ((1, 1) ∷ []) 500000 ∷
    sent App 1 400000 1200 ∷
    sent App 0 400000 1200 ∷
    sent Initial 0 0 1200 ∷ []

-- A sample of 100000. The loss time of App, 400000 + 112500, is later than the timeout of Initial, 0 + 300000: it counts
-- all the same.
pub loss_time_before_an_earlier_probe_timeout :
    IsRun s late_loss × (deadline s late_loss ≡ loss_at App 512500)
    × (first_broken s late_loss (pto_fires Initial 512500) ≡ Some rule.TimerOther)
unfolding first_broken
loss_time_before_an_earlier_probe_timeout = (((((tt, refl), refl), refl), refl), refl, refl)

abbrev timeout_of_initial : List Event
timeout_of_initial =
    sent Initial 1 999000 1200 ∷
    pto_fires Initial 999000 ∷
    sent Handshake 0 500000 1200 ∷
    sent Initial 0 0 1200 ∷ []

-- The count is one for all spaces: the timeout of Initial doubles that of Handshake, 500000 + 1998000, and that of Initial is
-- 999000 + 1998000.
pub count_is_of_all_spaces :
    IsRun s timeout_of_initial × (deadline s timeout_of_initial ≡ pto_at Handshake 2498000)
    × (first_broken s timeout_of_initial (pto_fires Handshake 2497999) ≡ Some rule.TimerEarly)
    × IsRun s (pto_fires Handshake 2498000 ∷ timeout_of_initial)
unfolding first_broken
count_is_of_all_spaces = (((((tt, refl), refl), refl), refl), refl, refl, (((((tt, refl), refl), refl), refl), refl))

abbrev timeout_with_a_bare_packet : List Event
timeout_with_a_bare_packet =
    pto_fires Initial 999000 ∷
    sent Initial 1 0 1200 ∷
    bare Initial 0 0 100 ∷ []

-- The acknowledgment of a packet that was not in flight gives no sample, but sets the count to 0: packet 1 is due at 0 + 999000 again.
pub acknowledgment_of_a_bare_packet_resets_the_count :
    IsRun s (ack Initial ((0, 0) ∷ []) 1000000 ∷ timeout_with_a_bare_packet)
    × (pto_count s timeout_with_a_bare_packet ≡ 1)
    × (pto_count s (ack Initial ((0, 0) ∷ []) 1000000 ∷ timeout_with_a_bare_packet) ≡ 0)
    × (deadline s (ack Initial ((0, 0) ∷ []) 1000000 ∷ timeout_with_a_bare_packet) ≡ pto_at Initial 999000)
unfolding first_broken
acknowledgment_of_a_bare_packet_resets_the_count = (((((tt, refl), refl), refl), refl), refl, refl, refl)

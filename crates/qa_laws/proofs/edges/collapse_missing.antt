-- Edges of what a reported window may be behind persistent congestion (RFC 9002, section 7.6.2).
--
-- Packet 0 gives a sample of 100000, so that the duration is 3 * (100000 + 200000 + 25000) = 975000. Packets 1 and 2 lie 975001 apart and are
-- found lost by the acknowledgment of packet 5, which is padded and has 1200 bytes. So the window may be 2400 and those 1200.
use Rattle.std.specs.Prelude.{◌≡◌, ℕ, true, false, List, [], ◌∷◌, Some, None, refl}
use Rattle.qa_base.specs.declared.event.Event.{Event}
use Rattle.qa_base.specs.declared.event.Event.TheVariants.{Discard}
use Rattle.qa_base.specs.declared.rule.Field.TheVariants as field
use Rattle.qa_base.specs.declared.rule.Rule.TheVariants as rule
use Rattle.qa_base.specs.declared.space.Controller.TheVariants.{Reported}
use Rattle.qa_base.specs.declared.space.Space.TheVariants.{Initial, App}
use Rattle.qa_base.specs.machine.Breaches.{is_collapse_missing}
use Rattle.qa_base.specs.machine.Loss.{is_persistent}
use Rattle.qa_base.specs.machine.Rules.{first_broken, IsRun}
use Rattle.qa_base.specs.machine.Window.{acknowledged_since_collapse}
use Rattle.qa_base.specs.values.Settings.{Settings, no_options}
use Rattle.qa_laws.proofs.Shorthand.{server, choosing, reporting, sent, padded, bare, ack, limited_ack, lost, metrics}

abbrev r : Settings
r = reporting (server 1200 12000) 0

abbrev sampled : List Event
sampled =
    ack App ((0, 0) ∷ []) 100000 ∷
    sent App 0 0 1200 ∷ []

abbrev collapsed_by : ℕ → Event → List Event
collapsed_by second acknowledgment =
    lost App ((1, 2) ∷ []) 1275002 ∷
    acknowledgment ∷
    padded App 5 1175002 1200 ∷
    sent App 2 second 1200 ∷
    sent App 1 200000 1200 ∷
    sampled

abbrev collapsed : List Event
collapsed = collapsed_by 1175001 (ack App ((5, 5) ∷ []) 1275002)

-- ---- the bound

-- 3600 is two datagrams and the packet that the very event acknowledged. One byte more shows no collapse.
pub bytes_of_the_event_itself_count :
    IsRun r collapsed
    × (acknowledged_since_collapse r collapsed ≡ Some 1200)
    × (first_broken r collapsed (metrics 1275002 (Some 3600) None None None None None None) ≡ None)
    × (first_broken r collapsed (metrics 1275002 (Some 3601) None None None None None None) ≡ Some rule.CollapseMissing)
    × (first_broken r collapsed (metrics 1275002 (Some 0) None None None None None None) ≡ None)
unfolding first_broken
bytes_of_the_event_itself_count = ((((((((tt, refl), refl), refl), refl), refl), refl), refl), refl, refl, refl, refl)

-- 975000 apart the two packets do not establish it.
pub without_persistent_congestion_any_window_may_be_reported :
    (is_persistent r (ack App ((5, 5) ∷ []) 1275002 ∷ padded App 5 1175002 1200 ∷ sent App 2 1175000 1200 ∷ sent App 1 200000 1200 ∷ sampled) ≡ false)
    × (first_broken r (collapsed_by 1175000 (ack App ((5, 5) ∷ []) 1275002)) (metrics 1275002 (Some 3601) None None None None None None) ≡ None)
    × (first_broken r (collapsed_by 1175000 (ack App ((5, 5) ∷ []) 1275002)) (metrics 1275002 (Some 100000) None None None None None None) ≡ None)
unfolding first_broken
without_persistent_congestion_any_window_may_be_reported = (refl, refl, refl)

-- NewReno's window is compared with the machine's: 2400 and 1200.
pub rule_is_of_reported_windows_alone :
    (first_broken (server 1200 12000) collapsed (metrics 1275002 (Some 3601) None None None None None None) ≡ Some (rule.Metric field.Window))
    × (first_broken (server 1200 12000) collapsed (metrics 1275002 (Some 3600) None None None None None None) ≡ None)
    × (is_collapse_missing (server 1200 12000) collapsed (metrics 1275002 (Some 3601) None None None None None None) ≡ false)
    × (is_collapse_missing r collapsed (metrics 1275002 (Some 3601) None None None None None None) ≡ true)
unfolding first_broken
rule_is_of_reported_windows_alone = (refl, refl, refl, refl)

-- ---- what was acknowledged since

abbrev more : List Event
more =
    padded App 6 1275002 700 ∷
    collapsed

-- Packet 6 adds its 700 bytes once it is acknowledged, also by a sender that was limited.
pub bytes_acknowledged_since_count :
    (first_broken r more (metrics 1275003 (Some 3601) None None None None None None) ≡ Some rule.CollapseMissing)
    × (first_broken r (ack App ((6, 6) ∷ []) 1275003 ∷ more) (metrics 1275003 (Some 4300) None None None None None None) ≡ None)
    × (first_broken r (ack App ((6, 6) ∷ []) 1275003 ∷ more) (metrics 1275003 (Some 4301) None None None None None None) ≡ Some rule.CollapseMissing)
    × (first_broken r (limited_ack App ((6, 6) ∷ []) 1275003 ∷ more) (metrics 1275003 (Some 4300) None None None None None None) ≡ None)
    × (first_broken r (limited_ack App ((6, 6) ∷ []) 1275003 ∷ more) (metrics 1275003 (Some 4301) None None None None None None) ≡ Some rule.CollapseMissing)
    × (first_broken r (collapsed_by 1175001 (limited_ack App ((5, 5) ∷ []) 1275002)) (metrics 1275002 (Some 3600) None None None None None None) ≡ None)
    × (first_broken r (collapsed_by 1175001 (limited_ack App ((5, 5) ∷ []) 1275002)) (metrics 1275002 (Some 3601) None None None None None None) ≡ Some rule.CollapseMissing)
unfolding first_broken
bytes_acknowledged_since_count = (refl, refl, refl, refl, refl, refl, refl)

-- A second acknowledgment of packets 5 and 6, and one of packet 1, which was declared lost, add nothing.
pub packet_is_counted_once :
    (first_broken r (ack App ((5, 6) ∷ []) 1275004 ∷ ack App ((6, 6) ∷ []) 1275003 ∷ more) (metrics 1275004 (Some 4301) None None None None None None) ≡ Some rule.CollapseMissing)
    × (first_broken r (ack App ((1, 1) ∷ (5, 5) ∷ []) 1275003 ∷ more) (metrics 1275003 (Some 3601) None None None None None None) ≡ Some rule.CollapseMissing)
    × (first_broken r (ack App ((1, 1) ∷ (5, 5) ∷ []) 1275003 ∷ more) (metrics 1275003 (Some 3600) None None None None None None) ≡ None)
unfolding first_broken
packet_is_counted_once = (refl, refl, refl)

-- Nor does one that is not in flight.
pub bare_packet_does_not_count :
    (first_broken r (ack App ((6, 6) ∷ []) 1275003 ∷ bare App 6 1275002 700 ∷ collapsed) (metrics 1275003 (Some 3600) None None None None None None) ≡ None)
    × (first_broken r (ack App ((6, 6) ∷ []) 1275003 ∷ bare App 6 1275002 700 ∷ collapsed) (metrics 1275003 (Some 3601) None None None None None None) ≡ Some rule.CollapseMissing)
unfolding first_broken
bare_packet_does_not_count = (refl, refl)

-- With a slack of 100 the bound is 3700; a slack of times does nothing.
pub slack_of_bytes_counts :
    (first_broken (reporting (server 1200 12000) 100) collapsed (metrics 1275002 (Some 3700) None None None None None None) ≡ None)
    × (first_broken (reporting (server 1200 12000) 100) collapsed (metrics 1275002 (Some 3701) None None None None None None) ≡ Some rule.CollapseMissing)
    × (first_broken (choosing (server 1200 12000) (record no_options { controller = Reported; report_slack_us = 100 })) collapsed (metrics 1275002 (Some 3601) None None None None None None) ≡ Some rule.CollapseMissing)
unfolding first_broken
slack_of_bytes_counts = (refl, refl, refl)

-- ---- which report is judged

-- The window in force is the initial one, 12000. A report of it, as before the sender has lowered it, is not judged, and the next one is, by the
-- same bound. So is one of 12000 where 13200 was reported before.
pub unchanged_window_is_not_judged :
    (first_broken r collapsed (metrics 1275002 (Some 12000) None None None None None None) ≡ None)
    × (first_broken r (metrics 1275002 (Some 12000) None None None None None None ∷ collapsed) (metrics 1275002 (Some 3601) None None None None None None) ≡ Some rule.CollapseMissing)
    × (first_broken r (metrics 1275002 (Some 12000) None None None None None None ∷ collapsed) (metrics 1275002 (Some 3600) None None None None None None) ≡ None)
    × (first_broken r (lost App ((1, 2) ∷ []) 1275002 ∷ ack App ((5, 5) ∷ []) 1275002 ∷ padded App 5 1175002 1200 ∷ sent App 2 1175001 1200 ∷ sent App 1 200000 1200 ∷ metrics 100000 (Some 13200) None None None None None None ∷ sampled) (metrics 1275002 (Some 12000) None None None None None None) ≡ Some rule.CollapseMissing)
    × (first_broken r (lost App ((1, 2) ∷ []) 1275002 ∷ ack App ((5, 5) ∷ []) 1275002 ∷ padded App 5 1175002 1200 ∷ sent App 2 1175001 1200 ∷ sent App 1 200000 1200 ∷ metrics 100000 (Some 13200) None None None None None None ∷ sampled) (metrics 1275002 (Some 13200) None None None None None None) ≡ None)
unfolding first_broken
unchanged_window_is_not_judged = (refl, refl, refl, refl, refl)

-- Other values may be reported between.
pub report_without_a_window_ends_nothing :
    (first_broken r (metrics 1275002 None None (Some 0) None None None None ∷ collapsed) (metrics 1275002 (Some 3601) None None None None None None) ≡ Some rule.CollapseMissing)
    × (first_broken r (metrics 1275002 None None (Some 0) None None None None ∷ collapsed) (metrics 1275002 (Some 3600) None None None None None None) ≡ None)
unfolding first_broken
report_without_a_window_ends_nothing = (refl, refl)

-- Whatever it told, no later one is judged.
pub first_other_window_ends_it :
    (acknowledged_since_collapse r (metrics 1275002 (Some 3600) None None None None None None ∷ collapsed) ≡ None)
    × (first_broken r (metrics 1275002 (Some 3600) None None None None None None ∷ collapsed) (metrics 1275002 (Some 100000) None None None None None None) ≡ None)
    × (first_broken r (metrics 1275002 (Some 2000) None None None None None None ∷ collapsed) (metrics 1275002 (Some 12000) None None None None None None) ≡ None)
    × (first_broken r (metrics 1275002 (Some 3601) None None None None None None ∷ collapsed) (metrics 1275002 (Some 100000) None None None None None None) ≡ None)
unfolding first_broken
first_other_window_ends_it = (refl, refl, refl, refl)

-- Nor do other events: here the keys of a space are discarded.
pub discard_does_not_end_it :
    (first_broken r (Discard 1275003 Initial ∷ collapsed) (metrics 1275003 (Some 3601) None None None None None None) ≡ Some rule.CollapseMissing)
    × (first_broken r (Discard 1275003 Initial ∷ collapsed) (metrics 1275003 (Some 3600) None None None None None None) ≡ None)
unfolding first_broken
discard_does_not_end_it = (refl, refl)

-- ---- a second collapse

abbrev collapsed_again : List Event
collapsed_again =
    lost App ((8, 9) ∷ []) 2375002 ∷
    ack App ((12, 12) ∷ []) 2375002 ∷
    padded App 12 2275002 500 ∷
    sent App 9 2275001 1200 ∷
    sent App 8 1300000 1200 ∷
    ack App ((6, 6) ∷ []) 1275003 ∷
    more

-- Packets 8 and 9 lie 975001 apart, and no window was reported between. Since the first collapse 1200 and 700 bytes were acknowledged before, and
-- 500 by the second: the bound is 2900, and not 4800.
pub second_collapse_begins_the_sum_anew :
    IsRun r collapsed_again
    × (acknowledged_since_collapse r collapsed_again ≡ Some 500)
    × (first_broken r collapsed_again (metrics 2375002 (Some 2900) None None None None None None) ≡ None)
    × (first_broken r collapsed_again (metrics 2375002 (Some 2901) None None None None None None) ≡ Some rule.CollapseMissing)
unfolding first_broken
second_collapse_begins_the_sum_anew = (((((((((((((((tt, refl), refl), refl), refl), refl), refl), refl), refl), refl), refl), refl), refl), refl), refl), refl, refl, refl)

-- Where a window was reported for the first, the second asks for a report of its own.
pub second_collapse_is_judged_after_a_report :
    (first_broken r (lost App ((8, 9) ∷ []) 2375002 ∷ ack App ((12, 12) ∷ []) 2375002 ∷ padded App 12 2275002 500 ∷ sent App 9 2275001 1200 ∷ sent App 8 1300000 1200 ∷ metrics 1275002 (Some 3600) None None None None None None ∷ collapsed) (metrics 2375002 (Some 2901) None None None None None None) ≡ Some rule.CollapseMissing)
    × (first_broken r (lost App ((8, 9) ∷ []) 2375002 ∷ ack App ((12, 12) ∷ []) 2375002 ∷ padded App 12 2275002 500 ∷ sent App 9 2275001 1200 ∷ sent App 8 1300000 1200 ∷ metrics 1275002 (Some 3600) None None None None None None ∷ collapsed) (metrics 2375002 (Some 3600) None None None None None None) ≡ None)
unfolding first_broken
second_collapse_is_judged_after_a_report = (refl, refl)

-- ---- the order of the rules

abbrev late : Settings
late = choosing (server 1200 12000) (record no_options { controller = Reported; timer_late = Some 0 })

abbrev waiting : List Event
waiting =
    ack App ((7, 7) ∷ []) 1275003 ∷
    padded App 7 1275002 1200 ∷
    padded App 6 1275002 1200 ∷
    collapsed

-- A report that shows no collapse is named for its time, for the loss that is owed, for another value and for a late timer first. Packet 6, one
-- below packet 7, is old at 1275002 + 112500.
pub rule_is_judged_last :
    IsRun late waiting
    × (first_broken r (ack App ((5, 5) ∷ []) 1275002 ∷ padded App 5 1175002 1200 ∷ sent App 2 1175001 1200 ∷ sent App 1 200000 1200 ∷ sampled) (metrics 1275002 (Some 3601) None None None None None None) ≡ Some rule.LossOwed)
    × (first_broken r collapsed (metrics 1275001 (Some 3601) None None None None None None) ≡ Some rule.TimeBack)
    × (first_broken r collapsed (metrics 1275002 (Some 3601) None (Some 1) None None None None) ≡ Some (rule.Metric field.BytesInFlight))
    × (first_broken late waiting (metrics 1387502 (Some 10000) None None None None None None) ≡ Some rule.CollapseMissing)
    × (first_broken late waiting (metrics 1387503 (Some 10000) None None None None None None) ≡ Some rule.TimerLate)
unfolding first_broken
rule_is_judged_last = (((((((((((tt, refl), refl), refl), refl), refl), refl), refl), refl), refl), refl), refl, refl, refl, refl, refl)

-- Edges of a window that the sender reports.
use Rattle.std.specs.Prelude.{◌≡◌, true, List, [], ◌∷◌, Some, None, refl}
use Rattle.qa_base.specs.declared.event.Event.{Event}
use Rattle.qa_base.specs.declared.rule.Field.TheVariants as field
use Rattle.qa_base.specs.declared.rule.Rule.TheVariants as rule
use Rattle.qa_base.specs.declared.space.Controller.TheVariants.{Reported}
use Rattle.qa_base.specs.declared.space.Space.TheVariants.{App}
use Rattle.qa_base.specs.machine.Reno.{reno}
use Rattle.qa_base.specs.machine.Rules.{first_broken, IsRun}
use Rattle.qa_base.specs.machine.State.{totals}
use Rattle.qa_base.specs.machine.Window.{ssthresh, window}
use Rattle.qa_base.specs.values.Settings.{Settings, no_options}
use Rattle.qa_laws.proofs.Shorthand.{server, choosing, reporting, sent, padded, bare, recovery, ack, lost, metrics}

abbrev r : Settings
r = reporting (server 1200 2400) 0

-- ---- which report counts

-- 2400 bytes may be sent before any report, and not one more.
pub before_any_report_the_window_is_the_initial_one :
    (window r [] ≡ 2400)
    × (first_broken r [] (sent App 0 0 2400) ≡ None)
    × (first_broken r [] (sent App 0 0 2401) ≡ Some rule.PastWindow)
unfolding first_broken
before_any_report_the_window_is_the_initial_one = (refl, refl, refl)

-- A report of 1000 admits 1000 bytes behind it, whatever was sent before; one of 5000 admits 5000.
pub report_counts_from_the_line_behind_it :
    (first_broken r (metrics 0 (Some 1000) None None None None None None ∷ []) (sent App 0 0 1000) ≡ None)
    × (first_broken r (metrics 0 (Some 1000) None None None None None None ∷ []) (sent App 0 0 1001) ≡ Some rule.PastWindow)
    × (first_broken r (metrics 0 (Some 5000) None None None None None None ∷ []) (sent App 0 0 5000) ≡ None)
    × (first_broken r (metrics 0 (Some 5000) None None None None None None ∷ []) (sent App 0 0 5001) ≡ Some rule.PastWindow)
    × (first_broken r (metrics 0 (Some 5000) None None None None None None ∷ sent App 0 0 2400 ∷ []) (padded App 1 0 2600) ≡ None)
    × (first_broken r (metrics 0 (Some 5000) None None None None None None ∷ sent App 0 0 2400 ∷ []) (padded App 1 0 2601) ≡ Some rule.PastWindow)
unfolding first_broken
report_counts_from_the_line_behind_it = (refl, refl, refl, refl, refl, refl)

-- The latest one, be it lower or higher; a report without a window leaves it.
pub last_report_of_a_window_counts :
    (window r (metrics 1 (Some 3000) None None None None None None ∷ metrics 0 (Some 5000) None None None None None None ∷ []) ≡ 3000)
    × (first_broken r (metrics 1 (Some 3000) None None None None None None ∷ metrics 0 (Some 5000) None None None None None None ∷ []) (sent App 0 1 3001) ≡ Some rule.PastWindow)
    × (first_broken r (metrics 1 (Some 5000) None None None None None None ∷ metrics 0 (Some 3000) None None None None None None ∷ []) (sent App 0 1 5000) ≡ None)
    × IsRun r (sent App 0 1 5000 ∷ metrics 1 None None (Some 0) None None None None ∷ metrics 0 (Some 5000) None None None None None None ∷ [])
    × (first_broken r (metrics 1 None None (Some 0) None None None None ∷ metrics 0 (Some 5000) None None None None None None ∷ []) (sent App 0 1 5001) ≡ Some rule.PastWindow)
unfolding first_broken
last_report_of_a_window_counts = (refl, refl, refl, (((tt, refl), refl), refl), refl)

-- A window of 0 is one that is reported; then nothing in flight may be sent on its leave.
pub window_may_be_below_the_bytes_in_flight :
    IsRun r (bare App 1 1 100 ∷ metrics 1 (Some 0) None None None None None None ∷ sent App 0 0 1200 ∷ [])
    × (first_broken r (metrics 1 (Some 0) None None None None None None ∷ sent App 0 0 1200 ∷ []) (sent App 1 1 1) ≡ Some rule.PastWindow)
    × (first_broken r (metrics 1 (Some 18446744073709551615) None None None None None None ∷ sent App 0 0 1200 ∷ []) (sent App 1 1 65527) ≡ None)
unfolding first_broken
window_may_be_below_the_bytes_in_flight = ((((tt, refl), refl), refl), refl, refl)

-- ---- what the window is judged by

abbrev halved : List Event
halved =
    lost App ((0, 0) ∷ []) 100000 ∷
    ack App ((3, 3) ∷ []) 100000 ∷
    sent App 3 0 1200 ∷
    sent App 2 0 1200 ∷
    sent App 1 0 1200 ∷
    sent App 0 0 1200 ∷ []

abbrev wide : Settings
wide = reporting (server 1200 12000) 0

-- Packet 0 is lost: NewReno halves its window to 6000, of which 2400 are in flight. The sender reported none, so that it may have 12000 in flight;
-- and packet 3, which would have made it grow in slow start, is not counted.
pub the_machine_s_own_window_judges_no_packet :
    IsRun wide halved
    × ((reno wide halved).window ≡ 6000)
    × (window wide halved ≡ 12000)
    × (ssthresh wide halved ≡ None)
    × (first_broken wide halved (sent App 4 100000 9600) ≡ None)
    × (first_broken wide halved (sent App 4 100000 9601) ≡ Some rule.PastWindow)
    × (first_broken (server 1200 12000) halved (sent App 4 100000 3600) ≡ None)
    × (first_broken (server 1200 12000) halved (sent App 4 100000 3601) ≡ Some rule.PastWindow)
unfolding first_broken
the_machine_s_own_window_judges_no_packet = (((((((tt, refl), refl), refl), refl), refl), refl), refl, refl, refl, refl, refl, refl, refl)

-- Where the window is NewReno's, a report within the slack changes nothing: of 2400 with a slack of 100, 2500 may be reported and 2400 sent.
pub report_of_newreno_is_no_window :
    (first_broken (choosing (server 1200 2400) (record no_options { report_slack_bytes = 100 })) (metrics 0 (Some 2500) None None None None None None ∷ []) (sent App 0 0 2400) ≡ None)
    × (first_broken (choosing (server 1200 2400) (record no_options { report_slack_bytes = 100 })) (metrics 0 (Some 2500) None None None None None None ∷ []) (sent App 0 0 2401) ≡ Some rule.PastWindow)
unfolding first_broken
report_of_newreno_is_no_window = (refl, refl)

-- With a slack of 1000 bytes the window is still what was reported.
pub slack_does_not_loosen_the_window :
    (first_broken (reporting (server 1200 2400) 1000) [] (sent App 0 0 2401) ≡ Some rule.PastWindow)
    × (first_broken (reporting (server 1200 2400) 1000) (metrics 0 (Some 3000) None None None None None None ∷ []) (sent App 0 0 3001) ≡ Some rule.PastWindow)
unfolding first_broken
slack_does_not_loosen_the_window = (refl, refl)

-- Both may be chosen: then the reported window must not be full before.
pub reported_window_may_be_overshot :
    (first_broken (choosing (server 1200 2400) (record no_options { controller = Reported; window_overshoot = true })) (metrics 0 (Some 1201) None None None None None None ∷ sent App 0 0 1200 ∷ []) (sent App 1 0 9000) ≡ None)
    × (first_broken (choosing (server 1200 2400) (record no_options { controller = Reported; window_overshoot = true })) (metrics 0 (Some 1200) None None None None None None ∷ sent App 0 0 1200 ∷ []) (sent App 1 0 1) ≡ Some rule.PastWindow)
unfolding first_broken
reported_window_may_be_overshot = (refl, refl)

-- ---- reports and totals

-- Any window and any threshold may be reported; the other values are compared as ever.
pub window_and_ssthresh_are_not_compared :
    (first_broken wide halved (metrics 100000 (Some 1) (Some 1) None None None None None) ≡ None)
    × (first_broken wide halved (metrics 100000 (Some 13201) (Some 5999) (Some 2400) None None None None) ≡ None)
    × (first_broken wide halved (metrics 100000 (Some 1) (Some 1) (Some 2401) None None None None) ≡ Some (rule.Metric field.BytesInFlight))
    × (first_broken wide halved (metrics 100000 None None None (Some 99999) None None None) ≡ Some (rule.Metric field.LatestRtt))
    × (first_broken (server 1200 12000) halved (metrics 100000 (Some 6001) None None None None None None) ≡ Some (rule.Metric field.Window))
    × (first_broken (server 1200 12000) halved (metrics 100000 None (Some 5999) None None None None None) ≡ Some (rule.Metric field.Ssthresh))
unfolding first_broken
window_and_ssthresh_are_not_compared = (refl, refl, refl, refl, refl, refl)

-- And no slow start threshold.
pub totals_have_the_reported_window :
    ((totals wide halved).window ≡ 12000)
    × ((totals wide halved).ssthresh ≡ None)
    × ((totals wide halved).bytes_in_flight ≡ 2400)
    × ((totals wide (metrics 100000 (Some 7) None None None None None None ∷ halved)).window ≡ 7)
    × ((totals (server 1200 12000) halved).window ≡ 6000)
    × ((totals (server 1200 12000) halved).ssthresh ≡ Some 6000)
unfolding first_broken
totals_have_the_reported_window = (refl, refl, refl, refl, refl, refl)

-- ---- recovery

-- The loss of packet 0 enters recovery, so that one packet may be marked for it; a lower report enters nothing.
pub entries_do_not_go_by_the_window :
    (first_broken wide (metrics 100000 (Some 1000) None None None None None None ∷ halved) (recovery App 4 100000 1200) ≡ None)
    × (first_broken wide (recovery App 4 100000 1200 ∷ metrics 100000 (Some 1000) None None None None None None ∷ halved) (recovery App 5 100000 1200) ≡ Some rule.PastRecovery)
    × (first_broken wide (metrics 0 (Some 1000) None None None None None None ∷ sent App 0 0 1200 ∷ []) (recovery App 1 0 1200) ≡ Some rule.PastRecovery)
unfolding first_broken
entries_do_not_go_by_the_window = (refl, refl, refl)

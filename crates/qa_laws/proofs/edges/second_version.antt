-- Edges of what version 2 of the format asks: late timers, and a min_rtt that is refreshed (RFC 9002, section 5.2).
use Rattle.std.specs.Prelude.{◌≡◌, true, false, List, [], ◌∷◌, Some, None, refl}
use Rattle.qa_base.specs.declared.event.Event.{Event}
use Rattle.qa_base.specs.declared.event.Event.TheVariants.{Discard}
use Rattle.qa_base.specs.declared.rule.Field.TheVariants as field
use Rattle.qa_base.specs.declared.rule.Rule.TheVariants as rule
use Rattle.qa_base.specs.declared.space.Space.TheVariants.{Initial, Handshake, App}
use Rattle.qa_base.specs.machine.Estimates.{rtt, sampled}
use Rattle.qa_base.specs.machine.Rules.{first_broken, IsRun}
use Rattle.qa_base.specs.machine.Timer.{deadline, set_since}
use Rattle.qa_base.specs.values.Settings.{Settings}
use Rattle.qa_laws.proofs.Shorthand.{client, server, second_version, sent, bare, ack, lost, pto_fires, metrics}
use Rattle.qa_laws.proofs.edges.Deadlines.{pto_at}

-- ---- late timers

abbrev app_limited : Settings
app_limited = second_version (client 1200 12000) (Some 1000) false 0 0

abbrev reported : List Event
reported =
    metrics 999500 None None None None None None None ∷
    sent Initial 0 0 1200 ∷ []

-- The probe timeout is at 999000 and was set at 0. A report at 999500 does not put it off: any event after 1000000 is late.
pub report_does_not_put_off_a_timer :
    IsRun app_limited reported × (deadline app_limited reported ≡ pto_at Initial 999000) × (set_since app_limited reported ≡ 0)
    × (first_broken app_limited reported (pto_fires Initial 1000000) ≡ None)
    × (first_broken app_limited reported (metrics 1000001 None None None None None None None) ≡ Some rule.TimerLate)
    × (first_broken app_limited reported (bare Initial 1 1000001 100) ≡ Some rule.TimerLate)
unfolding first_broken
report_does_not_put_off_a_timer = (((tt, refl), refl), refl, refl, refl, refl, refl)

abbrev unanswered : List Event
unanswered =
    ack Initial ((0, 0) ∷ []) 100000 ∷
    sent Initial 0 0 1200 ∷ []

-- A client that is not validated keeps a timer with nothing open: 100000 + 100000 + 4 * 50000. It is never late.
pub timer_with_nothing_open_is_never_late :
    IsRun app_limited unanswered × (deadline app_limited unanswered ≡ pto_at Initial 400000)
    × (first_broken app_limited unanswered (pto_fires Initial 900000000) ≡ None)
unfolding first_broken
timer_with_nothing_open_is_never_late = (((tt, refl), refl), refl, refl)

-- Each packet that is sent sets the probe timeout anew: the deadline is then another, and counts from that packet's time.
pub packet_sets_the_timer_anew :
    (set_since app_limited (sent Initial 1 500000 1200 ∷ sent Initial 0 0 1200 ∷ []) ≡ 500000)
    × (first_broken app_limited (sent Initial 1 500000 1200 ∷ sent Initial 0 0 1200 ∷ []) (pto_fires Initial 1500000) ≡ None)
    × (first_broken app_limited (sent Initial 1 500000 1200 ∷ sent Initial 0 0 1200 ∷ []) (pto_fires Initial 1500001) ≡ Some rule.TimerLate)
unfolding first_broken
packet_sets_the_timer_anew = (refl, refl, refl)

-- The rule comes last: an event that is late as well is refused by the rule that it breaks besides.
pub late_timer_is_judged_last :
    (first_broken app_limited reported (metrics 1000001 (Some 12001) None None None None None None) ≡ Some (rule.Metric field.Window))
    × (first_broken app_limited reported (sent Initial 0 1000001 1200) ≡ Some rule.NumberNotHigher)
    × (first_broken app_limited reported (pto_fires App 1000001) ≡ Some rule.TimerOther)
unfolding first_broken
late_timer_is_judged_last = (refl, refl, refl)

abbrev owing : List Event
owing =
    ack App ((3, 3) ∷ []) 100000 ∷
    sent App 3 0 1200 ∷
    sent App 2 0 1200 ∷
    sent App 1 0 1200 ∷
    sent App 0 0 1200 ∷ []

-- Packet 0 is lost, and packets 1 and 2 are old at 112500: the Lost line may come up to then, or up to the limit past it.
pub lost_line_can_be_late :
    (first_broken (second_version (server 1200 12000) (Some 0) false 0 0) owing (lost App ((0, 0) ∷ []) 112500) ≡ None)
    × (first_broken (second_version (server 1200 12000) (Some 0) false 0 0) owing (lost App ((0, 0) ∷ []) 112501) ≡ Some rule.TimerLate)
    × (first_broken (second_version (server 1200 12000) (Some 7) false 0 0) owing (lost App ((0, 0) ∷ []) 112507) ≡ None)
    × (first_broken (second_version (server 1200 12000) (Some 7) false 0 0) owing (lost App ((0, 0) ∷ []) 112508) ≡ Some rule.TimerLate)
unfolding first_broken
lost_line_can_be_late = (refl, refl, refl, refl)

abbrev discarded : List Event
discarded =
    Discard 999500 Initial ∷
    sent Handshake 0 0 1200 ∷
    sent Initial 0 0 1200 ∷ []

-- Both spaces have a probe timeout at 999000. Once Initial is discarded it is that of Handshake: the time is the same, and it counts
-- from the discard.
pub timer_of_another_space_is_another :
    (set_since app_limited discarded ≡ 999500)
    × (first_broken app_limited discarded (metrics 1000500 None None None None None None None) ≡ None)
    × (first_broken app_limited discarded (metrics 1000501 None None None None None None None) ≡ Some rule.TimerLate)
unfolding first_broken
timer_of_another_space_is_another = (refl, refl, refl)

-- ---- a refresh of min_rtt

abbrev congested : List Event
congested =
    ack App ((5, 5) ∷ []) 1343752 ∷
    sent App 5 1193752 1200 ∷
    sent App 2 1193751 1200 ∷
    sent App 1 200000 1200 ∷
    ack App ((0, 0) ∷ []) 100000 ∷
    sent App 0 0 1200 ∷ []

-- The last acknowledgment samples 150000: rttvar (150000 + 50000) / 4 = 50000, smoothed (700000 + 150000) / 8 = 106250, duration
-- 3 * (106250 + 200000 + 25000) = 993750. Packets 1 and 2 lie 993751 apart, so min_rtt is that sample, and not the one before it.
pub refresh_follows_the_sample :
    IsRun (second_version (server 1200 12000) None true 0 0) congested
    × (rtt (second_version (server 1200 12000) None true 0 0) congested
    ≡ record { latest_rtt = 150000; min_rtt = 150000; smoothed_rtt = 106250; rttvar = 50000; first_rtt_sample = Some 100000 })
    × ((sampled (second_version (server 1200 12000) None true 0 0) congested).min_rtt ≡ 100000)
    × ((rtt (second_version (server 1200 12000) None false 0 0) congested).min_rtt ≡ 100000)
unfolding first_broken
refresh_follows_the_sample = (((((((tt, refl), refl), refl), refl), refl), refl), refl, refl, refl)

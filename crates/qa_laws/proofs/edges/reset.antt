-- Edges of an estimate that persistent congestion resets (RFC 9002, section 5.2).
use Rattle.std.specs.Prelude.{◌≡◌, true, List, [], ◌∷◌, Some, None, refl}
use Rattle.qa_base.specs.declared.event.Event.{Event}
use Rattle.qa_base.specs.declared.space.Controller.TheVariants.{Reported}
use Rattle.qa_base.specs.declared.space.LossByNumber.TheVariants.{May}
use Rattle.qa_base.specs.declared.space.Space.TheVariants.{App}
use Rattle.qa_base.specs.machine.Estimates.{rtt, sampled}
use Rattle.qa_base.specs.machine.Loss.{declared, is_persistent, owed}
use Rattle.qa_base.specs.machine.Breaches.{numbers}
use Rattle.qa_base.specs.machine.Reno.{reno}
use Rattle.qa_base.specs.machine.Rules.{first_broken, IsRun}
use Rattle.qa_base.specs.machine.Rtt.{Estimate, first_sample}
use Rattle.qa_base.specs.values.Settings.{Settings, no_options}
use Rattle.qa_laws.proofs.Shorthand.{server, choosing, sent, ack, lost}

abbrev resets : Settings
resets = choosing (server 1200 12000) (record no_options { reset_rtt = true })

-- the same where min_rtt is to be refreshed too
abbrev both : Settings
both = choosing (server 1200 12000) (record no_options { reset_rtt = true; refresh_min_rtt = true })

abbrev congested : List Event
congested =
    ack App ((5, 5) ∷ []) 1343752 ∷
    sent App 5 1193752 1200 ∷
    sent App 2 1193751 1200 ∷
    sent App 1 200000 1200 ∷
    ack App ((0, 0) ∷ []) 100000 ∷
    sent App 0 0 1200 ∷ []

-- what is left of an estimate with a latest sample of 150000
abbrev begun : Estimate
begun = record { latest_rtt = 150000; min_rtt = 0; smoothed_rtt = 333000; rttvar = 166500; first_rtt_sample = None }

-- The last acknowledgment samples 150000, by which packets 1 and 2 lie a microsecond too far apart: the sample counts first, and its
-- smoothed RTT and rttvar are gone then. A reset goes before a refresh. Nothing of it is undone by the Lost line.
pub reset_follows_the_sample :
    IsRun resets congested × (rtt resets congested ≡ begun)
    × (sampled resets congested ≡ record { latest_rtt = 150000; min_rtt = 100000; smoothed_rtt = 106250; rttvar = 50000; first_rtt_sample = Some 100000 })
    × (rtt both congested ≡ begun) × (rtt resets (lost App ((1, 2) ∷ []) 1343752 ∷ congested) ≡ begun)
unfolding first_broken
reset_follows_the_sample = (((((((tt, refl), refl), refl), refl), refl), refl), refl, refl, refl, refl)

abbrev sampled_again : List Event
sampled_again =
    ack App ((6, 6) ∷ []) 1543752 ∷
    sent App 6 1343752 1200 ∷
    lost App ((1, 2) ∷ []) 1343752 ∷
    congested

-- The next sample, of 200000, is a first one.
pub sample_after_a_reset_is_a_first :
    IsRun resets sampled_again × (rtt resets sampled_again ≡ first_sample 200000 1543752)
unfolding first_broken
sample_after_a_reset_is_a_first = ((((((((((tt, refl), refl), refl), refl), refl), refl), refl), refl), refl), refl)

-- ---- a Lost line that completes the detection

abbrev spares : Settings
spares = choosing (server 1200 12000) (record no_options { controller = Reported; loss_by_number = May; reset_rtt = true })

abbrev found : List Event
found =
    ack App ((6, 6) ∷ []) 1362501 ∷
    sent App 6 1212501 1200 ∷
    sent App 3 1212500 1200 ∷
    sent App 2 1193751 1200 ∷
    sent App 1 200000 1200 ∷
    ack App ((0, 0) ∷ []) 100000 ∷
    sent App 0 0 1200 ∷ []

-- Packet 2 is as old as the loss delay, 168750: it and packet 1 are owed, and make persistent congestion. Packet 3 is free, and is named.
-- By the estimate after the reset packet 2 would be young, and no packet an end.
pub lost_line_goes_by_the_estimate_of_its_detection :
    IsRun spares (lost App ((1, 3) ∷ []) 1362501 ∷ found)
    × (is_persistent spares found ≡ true) × (rtt spares found ≡ begun)
    × (numbers (owed spares found) ≡ 2 ∷ 1 ∷ [])
    × (numbers (declared spares (lost App ((1, 3) ∷ []) 1362501 ∷ found)) ≡ 3 ∷ 2 ∷ 1 ∷ [])
    × (is_persistent spares (lost App ((1, 3) ∷ []) 1362501 ∷ found) ≡ true)
    × (rtt spares (lost App ((1, 3) ∷ []) 1362501 ∷ found) ≡ begun)
    × ((reno spares (lost App ((1, 3) ∷ []) 1362501 ∷ found)).recovery_start_time ≡ None)
unfolding first_broken
lost_line_goes_by_the_estimate_of_its_detection = (((((((((tt, refl), refl), refl), refl), refl), refl), refl), refl), refl, refl, refl, refl, refl, refl, refl)

-- Edges of what a sender reports of its own state.
--
-- A sample of 80000 grows the window from 2400 to 2800; the second is 100000: rttvar (120000 + 20000) / 4 = 35000, smoothed
-- (560000 + 100000) / 8 = 82500. Packet 1 is lost, three below packet 4: the threshold is 1400, the window 2400, two datagrams.
-- Packets 2 and 3 stay in flight, 800 bytes. So all seven values differ from each other.
use Rattle.std.specs.Prelude.{◌≡◌, List, [], ◌∷◌, Some, None, refl}
use Rattle.qa_base.specs.declared.event.Event.{Event}
use Rattle.qa_base.specs.declared.rule.Field.TheVariants as field
use Rattle.qa_base.specs.declared.rule.Rule.TheVariants as rule
use Rattle.qa_base.specs.declared.space.Space.TheVariants.{App}
use Rattle.qa_base.specs.machine.Rules.{first_broken, IsRun}
use Rattle.qa_base.specs.values.Settings.{Settings}
use Rattle.qa_laws.proofs.Shorthand.{server, sent, ack, lost, metrics}

abbrev s : Settings
s = server 1200 2400

abbrev seven_values : List Event
seven_values =
    lost App ((1, 1) ∷ []) 180000 ∷
    ack App ((4, 4) ∷ []) 180000 ∷
    sent App 4 80000 400 ∷
    sent App 3 80000 400 ∷
    sent App 2 80000 400 ∷
    sent App 1 80000 400 ∷
    ack App ((0, 0) ∷ []) 80000 ∷
    sent App 0 0 400 ∷ []

-- The machine's own values are accepted.
pub right_values_are_accepted :
    IsRun s (metrics 180000 (Some 2400) (Some 1400) (Some 800) (Some 100000) (Some 80000) (Some 82500) (Some 35000) ∷ seven_values)
unfolding first_broken
right_values_are_accepted = (((((((((tt, refl), refl), refl), refl), refl), refl), refl), refl), refl)

-- Each value alone is refused where it is one below the machine's.
pub value_below_is_refused :
    (first_broken s seven_values (metrics 180000 (Some 2399) None None None None None None) ≡ Some (rule.Metric field.Window))
    × (first_broken s seven_values (metrics 180000 None (Some 1399) None None None None None) ≡ Some (rule.Metric field.Ssthresh))
    × (first_broken s seven_values (metrics 180000 None None (Some 799) None None None None) ≡ Some (rule.Metric field.BytesInFlight))
    × (first_broken s seven_values (metrics 180000 None None None (Some 99999) None None None) ≡ Some (rule.Metric field.LatestRtt))
    × (first_broken s seven_values (metrics 180000 None None None None (Some 79999) None None) ≡ Some (rule.Metric field.MinRtt))
    × (first_broken s seven_values (metrics 180000 None None None None None (Some 82499) None) ≡ Some (rule.Metric field.SmoothedRtt))
    × (first_broken s seven_values (metrics 180000 None None None None None None (Some 34999)) ≡ Some (rule.Metric field.Rttvar))
unfolding first_broken
value_below_is_refused = (refl, refl, refl, refl, refl, refl, refl)

-- And where it is one above.
pub value_above_is_refused :
    (first_broken s seven_values (metrics 180000 (Some 2401) None None None None None None) ≡ Some (rule.Metric field.Window))
    × (first_broken s seven_values (metrics 180000 None (Some 1401) None None None None None) ≡ Some (rule.Metric field.Ssthresh))
    × (first_broken s seven_values (metrics 180000 None None (Some 801) None None None None) ≡ Some (rule.Metric field.BytesInFlight))
    × (first_broken s seven_values (metrics 180000 None None None (Some 100001) None None None) ≡ Some (rule.Metric field.LatestRtt))
    × (first_broken s seven_values (metrics 180000 None None None None (Some 80001) None None) ≡ Some (rule.Metric field.MinRtt))
    × (first_broken s seven_values (metrics 180000 None None None None None (Some 82501) None) ≡ Some (rule.Metric field.SmoothedRtt))
    × (first_broken s seven_values (metrics 180000 None None None None None None (Some 35001)) ≡ Some (rule.Metric field.Rttvar))
unfolding first_broken
value_above_is_refused = (refl, refl, refl, refl, refl, refl, refl)

-- Of two neighbours that differ the first in the order of the format is named.
pub first_of_two_neighbours_is_named :
    (first_broken s seven_values (metrics 180000 (Some 1) (Some 1) None None None None None) ≡ Some (rule.Metric field.Window))
    × (first_broken s seven_values (metrics 180000 None (Some 1) (Some 1) None None None None) ≡ Some (rule.Metric field.Ssthresh))
    × (first_broken s seven_values (metrics 180000 None None (Some 1) (Some 1) None None None) ≡ Some (rule.Metric field.BytesInFlight))
    × (first_broken s seven_values (metrics 180000 None None None (Some 1) (Some 1) None None) ≡ Some (rule.Metric field.LatestRtt))
    × (first_broken s seven_values (metrics 180000 None None None None (Some 1) (Some 1) None) ≡ Some (rule.Metric field.MinRtt))
    × (first_broken s seven_values (metrics 180000 None None None None None (Some 1) (Some 1)) ≡ Some (rule.Metric field.SmoothedRtt))
unfolding first_broken
first_of_two_neighbours_is_named = (refl, refl, refl, refl, refl, refl)

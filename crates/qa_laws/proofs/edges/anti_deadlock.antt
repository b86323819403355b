-- Edges of the timer that a client keeps until its address is validated (RFC 9002, section 6.2.2.1).
--
-- Before any sample a probe timeout is 999000; after a sample of 100000 it is 300000.
use Rattle.std.specs.Prelude.{◌≡◌, List, [], ◌∷◌, Some, None, refl}
use Rattle.qa_base.specs.declared.event.Event.{Event}
use Rattle.qa_base.specs.declared.event.Event.TheVariants.{Discard, Confirmed, Keys}
use Rattle.qa_base.specs.declared.rule.Rule.TheVariants as rule
use Rattle.qa_base.specs.declared.space.Space.TheVariants.{Initial, Handshake}
use Rattle.qa_base.specs.machine.Rules.{first_broken, IsRun}
use Rattle.qa_base.specs.values.Settings.{Settings}
use Rattle.qa_base.specs.machine.Timer.{deadline}
use Rattle.qa_laws.proofs.Shorthand.{client, sent, padded, bare, ack, lost, loss_fires, pto_fires, metrics}
use Rattle.qa_laws.proofs.edges.Deadlines.{pto_at}

abbrev c : Settings
c = client 1200 12000

-- ---- events that set the timer

abbrev padded_once : List Event
padded_once =
    padded Initial 0 1000 1200 ∷ []

-- An in-flight packet sets the timer, and each later one sets it anew: 1000 + 999000, 2000 + 999000.
pub in_flight_packet_sets_the_timer :
    IsRun c padded_once × (deadline c padded_once ≡ pto_at Initial 1000000)
    × IsRun c (padded Initial 1 2000 1200 ∷ padded_once)
    × (deadline c (padded Initial 1 2000 1200 ∷ padded_once) ≡ pto_at Initial 1001000)
unfolding first_broken
in_flight_packet_sets_the_timer = ((tt, refl), refl, ((tt, refl), refl), refl)

abbrev acknowledged : List Event
acknowledged =
    ack Initial ((0, 0) ∷ []) 100000 ∷
    sent Initial 0 0 1200 ∷ []

-- An acknowledgment of something new sets it: 100000 + 300000. The timer may fire then, and not before.
pub acknowledgment_sets_the_timer :
    IsRun c acknowledged × (deadline c acknowledged ≡ pto_at Initial 400000)
    × (first_broken c acknowledged (pto_fires Initial 399999) ≡ Some rule.TimerEarly)
    × IsRun c (pto_fires Initial 400000 ∷ acknowledged)
unfolding first_broken
acknowledgment_sets_the_timer = (((tt, refl), refl), refl, refl, (((tt, refl), refl), refl))

abbrev bare_acknowledged : List Event
bare_acknowledged =
    ack Initial ((0, 0) ∷ []) 2000 ∷
    bare Initial 0 1000 100 ∷ []

-- So does the acknowledgment of a packet that was not in flight, which gives no sample: 2000 + 999000.
pub acknowledgment_of_a_bare_packet_sets_the_timer :
    IsRun c bare_acknowledged × (deadline c bare_acknowledged ≡ pto_at Initial 1001000)
unfolding first_broken
acknowledgment_of_a_bare_packet_sets_the_timer = (((tt, refl), refl), refl)

-- A probe timeout sets it, by the time at which it fires, and doubles it: due at 400000, it fires at 500000, and
-- 500000 + 600000. The next one asks for a probe in between, as any does.
pub probe_timeout_sets_the_timer :
    IsRun c (pto_fires Initial 500000 ∷ acknowledged)
    × (deadline c (pto_fires Initial 500000 ∷ acknowledged) ≡ pto_at Initial 1100000)
    × (first_broken c (pto_fires Initial 500000 ∷ acknowledged) (pto_fires Initial 1100000) ≡ Some rule.ProbeOwed)
unfolding first_broken
probe_timeout_sets_the_timer = ((((tt, refl), refl), refl), refl, refl)

abbrev loss_found : List Event
loss_found =
    lost Initial ((0, 0) ∷ []) 112600 ∷
    loss_fires Initial 112510 ∷
    ack Initial ((1, 1) ∷ []) 100000 ∷
    sent Initial 1 0 1200 ∷
    sent Initial 0 0 1200 ∷ []

-- A loss timer sets it, and the Lost line after it does not: 112510 + 300000.
pub loss_timer_sets_the_timer_and_lost_does_not :
    IsRun c loss_found × (deadline c loss_found ≡ pto_at Initial 412510)
unfolding first_broken
loss_timer_sets_the_timer_and_lost_does_not = ((((((tt, refl), refl), refl), refl), refl), refl)

abbrev discarded : List Event
discarded =
    Discard 20 Initial ∷
    sent Initial 0 0 1200 ∷ []

-- A discard sets it, now for the Handshake space: 20 + 999000.
pub discard_sets_the_timer :
    IsRun c discarded × (deadline c discarded ≡ pto_at Handshake 999020)
    × (deadline c (Discard 20 Initial ∷ []) ≡ pto_at Handshake 999020)
unfolding first_broken
discard_sets_the_timer = (((tt, refl), refl), refl, refl)

-- ---- events that do not

-- A packet that is not in flight, Keys, Metrics and Confirmed set nothing by themselves.
pub other_events_set_no_timer :
    (deadline c [] ≡ None)
    × (deadline c (bare Initial 0 3000 100 ∷ []) ≡ None)
    × (deadline c (Keys 3000 ∷ []) ≡ None)
    × (deadline c (metrics 3000 (Some 12000) None None None None None None ∷ []) ≡ None)
    × (deadline c (Confirmed 3000 ∷ []) ≡ None)
    × (first_broken c (bare Initial 0 3000 100 ∷ []) (pto_fires Initial 5000000) ≡ Some rule.TimerNotSet)
unfolding first_broken
other_events_set_no_timer = (refl, refl, refl, refl, refl, refl)

-- Nor do they move the timer that was set at 1000; Keys make it one of the Handshake space.
pub other_events_leave_the_timer :
    IsRun c (bare Initial 1 3000 100 ∷ padded_once)
    × (deadline c (bare Initial 1 3000 100 ∷ padded_once) ≡ pto_at Initial 1000000)
    × IsRun c (metrics 3000 (Some 12000) None None None None None None ∷ padded_once)
    × (deadline c (metrics 3000 (Some 12000) None None None None None None ∷ padded_once) ≡ pto_at Initial 1000000)
    × IsRun c (Keys 3000 ∷ padded_once)
    × (deadline c (Keys 3000 ∷ padded_once) ≡ pto_at Handshake 1000000)
unfolding first_broken
other_events_leave_the_timer = (((tt, refl), refl), refl, ((tt, refl), refl), refl, ((tt, refl), refl), refl)

-- An acknowledgment of nothing new at 150000 leaves 100000 + 300000.
pub acknowledgment_of_nothing_new_leaves_the_timer :
    IsRun c (ack Initial ((0, 0) ∷ []) 150000 ∷ acknowledged)
    × (deadline c (ack Initial ((0, 0) ∷ []) 150000 ∷ acknowledged) ≡ pto_at Initial 400000)
unfolding first_broken
acknowledgment_of_nothing_new_leaves_the_timer = ((((tt, refl), refl), refl), refl)

-- ---- validation

abbrev handshake_acknowledged : List Event
handshake_acknowledged =
    ack Handshake ((0, 0) ∷ []) 100000 ∷
    sent Handshake 0 0 1200 ∷ []

-- Confirmed validates the address, and so does the acknowledgment of a Handshake packet: there is no such timer any more.
pub validated_client_keeps_no_timer :
    IsRun c (Confirmed 2000 ∷ padded_once) × (deadline c (Confirmed 2000 ∷ padded_once) ≡ None)
    × (first_broken c (Confirmed 2000 ∷ padded_once) (pto_fires Initial 1000000) ≡ Some rule.TimerNotSet)
    × IsRun c handshake_acknowledged × (deadline c handshake_acknowledged ≡ None)
unfolding first_broken
validated_client_keeps_no_timer = (((tt, refl), refl), refl, refl, ((tt, refl), refl), refl)

abbrev with_a_timeout : List Event
with_a_timeout =
    bare Initial 2 6000 100 ∷
    padded Initial 1 5000 1200 ∷
    sent Initial 0 0 1200 ∷ []

-- A probe timeout of a packet comes first: 0 + 999000, where the anti-deadlock timer would be 5000 + 999000.
pub probe_timeout_of_a_packet_comes_first :
    IsRun c with_a_timeout × (deadline c with_a_timeout ≡ pto_at Initial 999000)
unfolding first_broken
probe_timeout_of_a_packet_comes_first = ((((tt, refl), refl), refl), refl)

-- Edges of the handshake: what validates a client's address, and what shows that its Handshake keys are there (RFC 9002, A.8).
--
-- Before any sample a probe timeout is 999000; after a sample of 100000 it is 300000.
use Rattle.std.specs.Prelude.{◌≡◌, false, List, [], ◌∷◌, Some, refl}
use Rattle.qa_base.specs.declared.event.Event.{Event}
use Rattle.qa_base.specs.declared.rule.Rule.TheVariants as rule
use Rattle.qa_base.specs.declared.space.Space.TheVariants.{Initial, Handshake, App}
use Rattle.qa_base.specs.machine.Handshake.{is_validated}
use Rattle.qa_base.specs.machine.Rules.{first_broken, IsRun}
use Rattle.qa_base.specs.values.Settings.{Settings}
use Rattle.qa_base.specs.machine.Timer.{deadline}
use Rattle.qa_laws.proofs.Shorthand.{client, sent, padded, bare, ack, pto_fires}
use Rattle.qa_laws.proofs.edges.Deadlines.{pto_at}

abbrev c : Settings
c = client 1200 12000

-- ---- validation

abbrev app_acknowledged : List Event
app_acknowledged =
    ack App ((0, 0) ∷ []) 100000 ∷
    sent App 0 0 1200 ∷ []

-- An acknowledgment of application data validates no client, as one of Initial does not: its timer stays, at 100000 + 300000.
pub acknowledgment_of_application_data_validates_no_client :
    IsRun c app_acknowledged × (is_validated c app_acknowledged ≡ false)
    × (deadline c app_acknowledged ≡ pto_at Initial 400000)
    × IsRun c (pto_fires Initial 400000 ∷ app_acknowledged)
    × (is_validated c (ack Initial ((0, 0) ∷ []) 100000 ∷ sent Initial 0 0 1200 ∷ []) ≡ false)
unfolding first_broken
acknowledgment_of_application_data_validates_no_client = (((tt, refl), refl), refl, refl, (((tt, refl), refl), refl), refl)

-- ---- the keys of the Handshake space

abbrev bare_handshake : List Event
bare_handshake =
    bare Handshake 0 2000 100 ∷
    padded Initial 0 1000 1200 ∷ []

-- A Handshake packet shows the keys, in flight or not. One that is not sets no timer: it stays at 1000 + 999000.
pub handshake_packet_not_in_flight_shows_the_keys :
    IsRun c bare_handshake × (deadline c bare_handshake ≡ pto_at Handshake 1000000)
    × (first_broken c bare_handshake (pto_fires Initial 1000000) ≡ Some rule.TimerOther)
    × IsRun c (pto_fires Handshake 1000000 ∷ bare_handshake)
unfolding first_broken
handshake_packet_not_in_flight_shows_the_keys = (((tt, refl), refl), refl, refl, (((tt, refl), refl), refl))

abbrev app_sent : List Event
app_sent =
    sent App 0 2000 1200 ∷
    padded Initial 0 1000 1200 ∷ []

-- A packet of Initial or App shows no Handshake keys. That of App sets the timer anew: 2000 + 999000.
pub packets_of_other_spaces_show_no_keys :
    IsRun c app_sent × (deadline c app_sent ≡ pto_at Initial 1001000)
    × (first_broken c app_sent (pto_fires Handshake 1001000) ≡ Some rule.TimerOther)
unfolding first_broken
packets_of_other_spaces_show_no_keys = (((tt, refl), refl), refl, refl)

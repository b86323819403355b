-- Edges of how much of a history is still of use: the packets since the oldest that is open or owed, and the runs of numbers.
use Rattle.std.specs.Prelude.{◌≡◌, List, [], ◌∷◌, refl}
use Rattle.qa_base.specs.declared.event.Event.{Event}
use Rattle.qa_base.specs.declared.event.Event.TheVariants.{Discard}
use Rattle.qa_base.specs.declared.space.Space.TheVariants.{Initial, App}
use Rattle.qa_base.specs.machine.Kept.{kept_count, runs}
use Rattle.qa_base.specs.machine.Rules.{first_broken, IsRun}
use Rattle.qa_base.specs.values.Settings.{Settings}
use Rattle.qa_laws.proofs.Shorthand.{server, sent, bare, ack, lost}

abbrev s : Settings
s = server 1200 12000

abbrev five_sent : List Event
five_sent =
    sent App 4 0 1200 ∷
    sent App 2 0 1200 ∷
    sent App 1 0 1200 ∷
    sent Initial 1 0 1200 ∷
    sent App 0 0 1200 ∷ []

-- All five are open. The numbers 0 to 2 and 4 of App are two runs, and 1 of Initial is one.
pub open_packets_are_kept :
    IsRun s five_sent × (kept_count s five_sent ≡ 5) × (runs five_sent ≡ 3)
    × (kept_count s [] ≡ 0) × (runs [] ≡ 0)
unfolding first_broken
open_packets_are_kept = ((((((tt, refl), refl), refl), refl), refl), refl, refl, refl, refl)

abbrev first_acknowledged : List Event
first_acknowledged =
    ack App ((0, 0) ∷ []) 100000 ∷
    five_sent

-- The packet of Initial is the oldest that is open: it and the three after it are kept, of both spaces.
pub packets_since_the_oldest_are_kept_in_all_spaces :
    IsRun s first_acknowledged × (kept_count s first_acknowledged ≡ 4) × (runs first_acknowledged ≡ 3)
unfolding first_broken
packets_since_the_oldest_are_kept_in_all_spaces = (((((((tt, refl), refl), refl), refl), refl), refl), refl, refl)

-- A packet of a discarded space is not open, nor is one that was acknowledged: packet 1 of App is the oldest then. Packet 2, which
-- was acknowledged after it was sent, is kept with it.
pub discarded_and_acknowledged_packets_are_not_open :
    (kept_count s (Discard 100000 Initial ∷ first_acknowledged) ≡ 3)
    × (kept_count s (ack Initial ((1, 1) ∷ []) 100000 ∷ first_acknowledged) ≡ 3)
    × (kept_count s (ack App ((2, 2) ∷ []) 100000 ∷ Discard 100000 Initial ∷ first_acknowledged) ≡ 3)
    × (runs (Discard 100000 Initial ∷ first_acknowledged) ≡ 3)
discarded_and_acknowledged_packets_are_not_open = (refl, refl, refl, refl)

abbrev one_owed : List Event
one_owed =
    ack App ((2, 2) ∷ (4, 4) ∷ []) 100000 ∷
    Discard 100000 Initial ∷
    first_acknowledged

-- Packet 1, three below packet 4, is owed: it is kept with 2 and 4 until its Lost line, and then nothing is. The runs stay.
pub owed_packet_is_kept_until_its_lost_line :
    IsRun s (lost App ((1, 1) ∷ []) 100000 ∷ one_owed)
    × (kept_count s one_owed ≡ 3) × (kept_count s (lost App ((1, 1) ∷ []) 100000 ∷ one_owed) ≡ 0)
    × (runs (lost App ((1, 1) ∷ []) 100000 ∷ one_owed) ≡ 3)
unfolding first_broken
owed_packet_is_kept_until_its_lost_line = ((((((((((tt, refl), refl), refl), refl), refl), refl), refl), refl), refl), refl, refl, refl)

-- A packet that is not in flight is open until it is acknowledged, and is kept. Number 5 goes on from 4, and 7 is a run of its own.
pub packet_not_in_flight_is_kept :
    (kept_count s (bare App 5 100000 100 ∷ lost App ((1, 1) ∷ []) 100000 ∷ one_owed) ≡ 1)
    × (runs (bare App 5 100000 100 ∷ lost App ((1, 1) ∷ []) 100000 ∷ one_owed) ≡ 3)
    × (runs (bare App 7 100000 100 ∷ lost App ((1, 1) ∷ []) 100000 ∷ one_owed) ≡ 4)
packet_not_in_flight_is_kept = (refl, refl, refl)

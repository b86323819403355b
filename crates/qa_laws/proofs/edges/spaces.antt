-- Edges of discarded spaces (RFC 9002, section 6.4), and of numbers that the spaces share.
use Rattle.std.specs.Prelude.{◌≡◌, List, [], ◌∷◌, Some, None, refl}
use Rattle.qa_base.specs.declared.event.Event.{Event}
use Rattle.qa_base.specs.declared.event.Event.TheVariants.{Discard, Confirmed, Keys}
use Rattle.qa_base.specs.declared.rule.Rule.TheVariants as rule
use Rattle.qa_base.specs.declared.space.Space.TheVariants.{Initial, Handshake, App}
use Rattle.qa_base.specs.machine.Loss.{bytes_in_flight}
use Rattle.qa_base.specs.machine.Reno.{reno}
use Rattle.qa_base.specs.machine.Rules.{first_broken, IsRun, IsComplete}
use Rattle.qa_base.specs.values.Settings.{Settings}
use Rattle.qa_base.specs.machine.Timer.{deadline}
use Rattle.qa_laws.proofs.Shorthand.{server, sent, padded, bare, ack, lost, loss_fires}
use Rattle.qa_laws.proofs.edges.Deadlines.{loss_at, pto_at}

abbrev s : Settings
s = server 1200 12000

abbrev discarded : List Event
discarded =
    Discard 20 Initial ∷
    sent Handshake 0 10 1000 ∷
    padded Initial 1 0 700 ∷
    sent Initial 0 0 1200 ∷ []

-- ---- what is refused in a discarded space

-- Packets, acknowledgments and discards of Initial are refused once it is gone, also such as break a later rule: a number that
-- is not higher, one that was never sent, a size past the window.
pub discarded_space_takes_no_event :
    IsRun s discarded
    × (first_broken s discarded (sent Initial 2 30 1200) ≡ Some rule.SpaceGone)
    × (first_broken s discarded (bare Initial 2 30 1) ≡ Some rule.SpaceGone)
    × (first_broken s discarded (ack Initial ((0, 0) ∷ []) 30) ≡ Some rule.SpaceGone)
    × (first_broken s discarded (Discard 30 Initial) ≡ Some rule.SpaceGone)
    × (first_broken s discarded (sent Initial 0 30 60000) ≡ Some rule.SpaceGone)
    × (first_broken s discarded (ack Initial ((7, 7) ∷ []) 30) ≡ Some rule.SpaceGone)
unfolding first_broken
discarded_space_takes_no_event = (((((tt, refl), refl), refl), refl), refl, refl, refl, refl, refl, refl)

-- Other spaces go on.
pub other_spaces_go_on :
    IsRun s (ack Handshake ((0, 0) ∷ []) 30 ∷ sent App 0 30 1200 ∷ sent Handshake 1 30 1200 ∷ discarded)
unfolding first_broken
other_spaces_go_on = (((((((tt, refl), refl), refl), refl), refl), refl), refl)

abbrev both_discarded : List Event
both_discarded =
    Discard 30 Handshake ∷
    Confirmed 30 ∷
    discarded

-- Handshake may be discarded once Confirmed, which may be repeated; it is then gone as well. Discarded before, it is refused.
pub handshake_is_discarded_once_confirmed :
    IsRun s both_discarded
    × (first_broken s both_discarded (sent Handshake 1 30 1200) ≡ Some rule.SpaceGone)
    × (first_broken s both_discarded (Discard 30 Handshake) ≡ Some rule.SpaceGone)
    × (first_broken s discarded (Discard 30 Handshake) ≡ Some rule.NotConfirmed)
    × IsRun s (Keys 30 ∷ Confirmed 30 ∷ Confirmed 30 ∷ both_discarded)
unfolding first_broken
handshake_is_discarded_once_confirmed = (((((((tt, refl), refl), refl), refl), refl), refl), refl, refl, refl, (((((((((tt, refl), refl), refl), refl), refl), refl), refl), refl), refl))

-- ---- what leaves with it

-- The 1200 and 700 bytes of Initial leave the bytes in flight, 1000 of Handshake stay and then leave as well; the window of
-- 12000 stays.
pub discarded_packets_leave_the_bytes_in_flight :
    (bytes_in_flight s (sent Handshake 0 10 1000 ∷ padded Initial 1 0 700 ∷ sent Initial 0 0 1200 ∷ []) ≡ 2900)
    × (bytes_in_flight s discarded ≡ 1000) × (bytes_in_flight s both_discarded ≡ 0)
    × (reno s both_discarded ≡ record { window = 12000; ssthresh = None; recovery_start_time = None })
discarded_packets_leave_the_bytes_in_flight = (refl, refl, refl, refl)

abbrev loss_awaited : List Event
loss_awaited =
    Discard 100000 Initial ∷
    ack Initial ((1, 1) ∷ []) 100000 ∷
    sent Initial 1 0 1200 ∷
    sent Initial 0 0 1200 ∷ []

-- Packet 0 of Initial awaited its loss at 112500; with its space gone there is neither a loss timer nor a probe timeout.
pub discard_stops_the_timers_of_the_space :
    IsRun s loss_awaited × (deadline s (ack Initial ((1, 1) ∷ []) 100000 ∷ sent Initial 1 0 1200 ∷ sent Initial 0 0 1200 ∷ []) ≡ loss_at Initial 112500)
    × (deadline s loss_awaited ≡ None)
    × (first_broken s loss_awaited (loss_fires Initial 112500) ≡ Some rule.TimerNotSet)
    × (first_broken s loss_awaited (lost Initial ((0, 0) ∷ []) 112500) ≡ Some rule.LossNotOwed)
    × (deadline s discarded ≡ pto_at Handshake 999010)
unfolding first_broken
discard_stops_the_timers_of_the_space = (((((tt, refl), refl), refl), refl), refl, refl, refl, refl, refl)

-- ---- spaces do not share numbers

abbrev same_numbers : List Event
same_numbers =
    ack Handshake ((3, 3) ∷ []) 100000 ∷
    sent Handshake 3 0 1200 ∷
    sent App 3 0 1200 ∷
    sent App 0 0 1200 ∷ []

-- Handshake packet 3 is acknowledged: packet 3 of App is not, packet 0 of App is not lost by it, and no timer of App is set.
pub spaces_do_not_share_numbers :
    IsRun s same_numbers × IsComplete s same_numbers × (bytes_in_flight s same_numbers ≡ 2400)
    × (deadline s same_numbers ≡ None)
    × (first_broken s same_numbers (ack Handshake ((0, 0) ∷ []) 100000) ≡ Some rule.AckUnsent)
    × (first_broken s same_numbers (sent Handshake 3 100000 1200) ≡ Some rule.NumberNotHigher)
    × (first_broken s same_numbers (sent Initial 3 100000 1200) ≡ None)
unfolding first_broken
spaces_do_not_share_numbers = (((((tt, refl), refl), refl), refl), refl, refl, refl, refl, refl, refl)

abbrev detection_in_app : List Event
detection_in_app =
    ack App ((0, 0) ∷ []) 120000 ∷
    ack Handshake ((1, 1) ∷ []) 100000 ∷
    sent App 0 20000 1200 ∷
    sent Handshake 1 0 1200 ∷
    sent Handshake 0 0 1200 ∷ []

-- Handshake packet 0 is old from 112500 on. The acknowledgment of App at 120000 looks for losses in App alone: nothing is owed,
-- until the timer of Handshake, which is late, finds it.
pub detection_is_of_one_space :
    IsRun s detection_in_app × IsComplete s detection_in_app × (bytes_in_flight s detection_in_app ≡ 1200)
    × (deadline s detection_in_app ≡ loss_at Handshake 112500)
    × IsRun s (lost Handshake ((0, 0) ∷ []) 120000 ∷ loss_fires Handshake 120000 ∷ detection_in_app)
unfolding first_broken
detection_is_of_one_space = ((((((tt, refl), refl), refl), refl), refl), refl, refl, refl, (((((((tt, refl), refl), refl), refl), refl), refl), refl))

-- Edges of recovery that is told by the order of the lines (RFC 9002, section 7.3.2), and by times (B.5).
use Rattle.std.specs.Prelude.{◌≡◌, true, ℕ, List, [], ◌∷◌, Some, None, refl}
use Rattle.qa_base.specs.declared.event.Event.{Event}
use Rattle.qa_base.specs.declared.rule.Rule.TheVariants as rule
use Rattle.qa_base.specs.declared.space.Controller.TheVariants.{Reported}
use Rattle.qa_base.specs.declared.space.LossByNumber.TheVariants.{May}
use Rattle.qa_base.specs.declared.space.Space.TheVariants.{App}
use Rattle.qa_base.specs.machine.Reno.{is_entry, reno}
use Rattle.qa_base.specs.machine.Rules.{first_broken, IsRun}
use Rattle.qa_base.specs.values.Settings.{Settings, no_options}
use Rattle.qa_laws.proofs.Shorthand.{server, choosing, sparing, sent, recovery, ack, lost}

-- by times
abbrev s : Settings
s = server 1200 12000

-- by the order of the lines
abbrev ordered : Settings
ordered = choosing s (record no_options { recovery_by_order = true })

-- ---- the tick of the loss

-- Packet 0 is found lost by the acknowledgment at 100000, which has place 4, and packet 4 goes out behind it by the leave of recovery.
abbrev sent_behind : ℕ → List Event
sent_behind time =
    recovery App 4 time 1200 ∷
    lost App ((0, 0) ∷ []) 100000 ∷
    ack App ((3, 3) ∷ []) 100000 ∷
    sent App 3 0 1200 ∷
    sent App 2 0 1200 ∷
    sent App 1 0 1200 ∷
    sent App 0 0 1200 ∷ []

-- Packet 4 goes out at 100000, too, but in front of that acknowledgment, which has place 5.
abbrev sent_in_front : List Event
sent_in_front =
    lost App ((0, 0) ∷ []) 100000 ∷
    ack App ((3, 3) ∷ []) 100000 ∷
    sent App 4 100000 1200 ∷
    sent App 3 0 1200 ∷
    sent App 2 0 1200 ∷
    sent App 1 0 1200 ∷
    sent App 0 0 1200 ∷ []

-- Recovery begins at the acknowledgment, not at the line that declares the loss.
pub recovery_begins_at_a_time_or_a_place :
    ((reno s (sent_behind 100000)).recovery_start_time ≡ Some 100000)
    × ((reno ordered (sent_behind 100000)).recovery_start_time ≡ Some 4)
    × ((reno s sent_in_front).recovery_start_time ≡ Some 100000)
    × ((reno ordered sent_in_front).recovery_start_time ≡ Some 5)
recovery_begins_at_a_time_or_a_place = (refl, refl, refl, refl)

-- ---- growth

abbrev acknowledged : List Event → List Event
acknowledged h =
    lost App ((1, 2) ∷ []) 200001 ∷
    ack App ((4, 4) ∷ []) 200001 ∷
    h

-- In the tick of the loss packet 4 grows nothing by times. By order it adds 1200 * 1200 / 6000 = 240, but only behind the
-- acknowledgment. A microsecond later it adds them in either case. The losses of 1 and 2, sent at 0, change nothing.
pub growth_in_the_tick_of_the_loss :
    ((reno s (acknowledged (sent_behind 100000))).window ≡ 6000)
    × ((reno ordered (acknowledged (sent_behind 100000))).window ≡ 6240)
    × ((reno s (acknowledged sent_in_front)).window ≡ 6000)
    × ((reno ordered (acknowledged sent_in_front)).window ≡ 6000)
    × ((reno s (acknowledged (sent_behind 100001))).window ≡ 6240)
    × ((reno ordered (acknowledged (sent_behind 100001))).window ≡ 6240)
    × IsRun s (acknowledged (sent_behind 100000))
    × IsRun ordered (acknowledged (sent_behind 100000))
    × IsRun s (acknowledged sent_in_front)
    × IsRun ordered (acknowledged sent_in_front)
unfolding first_broken
growth_in_the_tick_of_the_loss = (
  refl,
  refl,
  refl,
  refl,
  refl,
  refl,
  (((((((((tt, refl), refl), refl), refl), refl), refl), refl), refl), refl),
  (((((((((tt, refl), refl), refl), refl), refl), refl), refl), refl), refl),
  (((((((((tt, refl), refl), refl), refl), refl), refl), refl), refl), refl),
  (((((((((tt, refl), refl), refl), refl), refl), refl), refl), refl), refl),
)

-- ---- a second entry

-- Packets 1, 2 and 4 are found lost by the acknowledgment of packet 7, which has place 8.
abbrev lost_again : List Event → List Event
lost_again h =
    lost App ((1, 2) ∷ (4, 4) ∷ []) 200001 ∷
    ack App ((7, 7) ∷ []) 200001 ∷
    sent App 7 100001 1200 ∷
    h

-- By times packet 4 was sent in recovery: no new entry, and packet 7 adds 240. By order it was sent after recovery began, which begins again:
-- half of 6000 is 3000, and 7 was sent before that. In front of the first acknowledgment it was sent in recovery in either case.
pub loss_in_the_tick_of_the_loss :
    (reno s (lost_again (sent_behind 100000)) ≡ record { window = 6240; ssthresh = Some 6000; recovery_start_time = Some 100000 })
    × (reno ordered (lost_again (sent_behind 100000)) ≡ record { window = 3000; ssthresh = Some 3000; recovery_start_time = Some 8 })
    × (reno s (lost_again sent_in_front) ≡ record { window = 6240; ssthresh = Some 6000; recovery_start_time = Some 100000 })
    × (reno ordered (lost_again sent_in_front) ≡ record { window = 6240; ssthresh = Some 6000; recovery_start_time = Some 5 })
    × IsRun s (lost_again (sent_behind 100000))
    × IsRun ordered (lost_again (sent_behind 100000))
unfolding first_broken
loss_in_the_tick_of_the_loss = (
  refl,
  refl,
  refl,
  refl,
  ((((((((((tt, refl), refl), refl), refl), refl), refl), refl), refl), refl), refl),
  ((((((((((tt, refl), refl), refl), refl), refl), refl), refl), refl), refl), refl),
)

-- So only by order there is leave for another packet.
pub leave_in_the_tick_of_the_loss :
    (first_broken s (lost_again (sent_behind 100000)) (recovery App 8 200001 1200) ≡ Some rule.PastRecovery)
    × (first_broken ordered (lost_again (sent_behind 100000)) (recovery App 8 200001 1200) ≡ None)
    × (first_broken ordered (recovery App 8 200001 1200 ∷ lost_again (sent_behind 100000)) (recovery App 9 200001 1200) ≡ Some rule.PastRecovery)
unfolding first_broken
leave_in_the_tick_of_the_loss = (refl, refl, refl)

-- ---- a detection that is completed

abbrev spared : Settings
spared = sparing s

abbrev spared_in_order : Settings
spared_in_order = choosing s (record no_options { controller = Reported; loss_by_number = May; recovery_by_order = true })

abbrev completed : List Event
completed =
    lost App ((0, 0) ∷ []) 100050 ∷
    ack App ((3, 3) ∷ []) 100000 ∷
    sent App 3 0 1200 ∷
    sent App 2 0 1200 ∷
    sent App 1 0 1200 ∷
    sent App 0 0 1200 ∷ []

-- The Lost line enters recovery, which begins at the acknowledgment in front of it.
pub completed_detection_has_its_own_place :
    (is_entry spared completed ≡ true) × ((reno spared completed).recovery_start_time ≡ Some 100000)
    × (is_entry spared_in_order completed ≡ true) × ((reno spared_in_order completed).recovery_start_time ≡ Some 4)
    × IsRun spared completed
    × IsRun spared_in_order completed
unfolding first_broken
completed_detection_has_its_own_place = (refl, refl, refl, refl, ((((((tt, refl), refl), refl), refl), refl), refl), ((((((tt, refl), refl), refl), refl), refl), refl))

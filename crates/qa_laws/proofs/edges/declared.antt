-- Edges of Lost lines: the next line has to name exactly what was found lost.
use Rattle.std.specs.Prelude.{◌≡◌, length, List, [], ◌∷◌, Some, None, refl}
use Rattle.qa_base.specs.declared.event.Event.{Event}
use Rattle.qa_base.specs.declared.event.Event.TheVariants.{Discard, Keys}
use Rattle.qa_base.specs.declared.rule.Rule.TheVariants as rule
use Rattle.qa_base.specs.declared.space.Space.TheVariants.{Initial, Handshake, App}
use Rattle.qa_base.specs.machine.Loss.{bytes_in_flight, owed}
use Rattle.qa_base.specs.machine.Reno.{reno}
use Rattle.qa_base.specs.machine.Rules.{first_broken, IsRun}
use Rattle.qa_base.specs.values.Settings.{Settings}
use Rattle.qa_laws.proofs.Shorthand.{server, sent, ack, lost, loss_fires, metrics}

abbrev s : Settings
s = server 1200 12000

-- Packets 0 and 1 are four and three below packet 4.
abbrev two_owed : List Event
two_owed =
    ack App ((4, 4) ∷ []) 100000 ∷
    sent App 4 0 1200 ∷
    sent App 3 0 1200 ∷
    sent App 2 0 1200 ∷
    sent App 1 0 1200 ∷
    sent App 0 0 1200 ∷ []

-- ---- the numbers

-- Two numbers, one of which is not owed; one too few; one too many; another one alone.
pub other_numbers_are_refused :
    IsRun s two_owed × (length (owed s two_owed) ≡ 2)
    × (first_broken s two_owed (lost App ((0, 0) ∷ (2, 2) ∷ []) 100000) ≡ Some rule.LossSet)
    × (first_broken s two_owed (lost App ((1, 2) ∷ []) 100000) ≡ Some rule.LossSet)
    × (first_broken s two_owed (lost App ((1, 1) ∷ []) 100000) ≡ Some rule.LossSet)
    × (first_broken s two_owed (lost App ((0, 2) ∷ []) 100000) ≡ Some rule.LossSet)
    × (first_broken s two_owed (lost App ((2, 2) ∷ []) 100000) ≡ Some rule.LossSet)
unfolding first_broken
other_numbers_are_refused = (((((((tt, refl), refl), refl), refl), refl), refl), refl, refl, refl, refl, refl, refl)

-- The numbers count, not how they are written: in one range, in two in any order, or named twice.
pub ranges_in_any_form_are_accepted :
    IsRun s (lost App ((0, 1) ∷ []) 100000 ∷ two_owed)
    × IsRun s (lost App ((1, 1) ∷ (0, 0) ∷ []) 100000 ∷ two_owed)
    × IsRun s (lost App ((0, 1) ∷ (1, 1) ∷ []) 100000 ∷ two_owed)
unfolding first_broken
ranges_in_any_form_are_accepted = ((((((((tt, refl), refl), refl), refl), refl), refl), refl), (((((((tt, refl), refl), refl), refl), refl), refl), refl), (((((((tt, refl), refl), refl), refl), refl), refl), refl))

abbrev one_skipped : List Event
one_skipped =
    ack App ((5, 5) ∷ []) 100000 ∷
    sent App 5 0 1200 ∷
    sent App 2 0 1200 ∷
    sent App 0 0 1200 ∷ []

-- Number 1 was never sent: a range over it names more than what is owed.
pub skipped_number_is_not_owed :
    (first_broken s one_skipped (lost App ((0, 2) ∷ []) 100000) ≡ Some rule.LossSet)
    × IsRun s (lost App ((0, 0) ∷ (2, 2) ∷ []) 100000 ∷ one_skipped)
unfolding first_broken
skipped_number_is_not_owed = (refl, (((((tt, refl), refl), refl), refl), refl))

-- ---- nothing owed, or elsewhere

abbrev one_sent : List Event
one_sent =
    sent App 0 0 1200 ∷ []

-- Nothing is owed: not after a packet, not of an empty history, and not once it was declared.
pub nothing_is_owed :
    (first_broken s one_sent (lost App ((0, 0) ∷ []) 5000000) ≡ Some rule.LossNotOwed)
    × (first_broken s [] (lost App ((0, 0) ∷ []) 0) ≡ Some rule.LossNotOwed)
    × (first_broken s (lost App ((0, 1) ∷ []) 100000 ∷ two_owed) (lost App ((0, 1) ∷ []) 100000) ≡ Some rule.LossNotOwed)
unfolding first_broken
nothing_is_owed = (refl, refl, refl)

abbrev owed_in_app : List Event
owed_in_app =
    ack App ((3, 3) ∷ []) 100000 ∷
    sent App 3 0 1200 ∷
    sent App 2 0 1200 ∷
    sent App 1 0 1200 ∷
    sent App 0 0 1200 ∷
    sent Initial 0 0 1200 ∷ []

-- Packet 0 of App is owed; packet 0 of Initial is not.
pub loss_is_owed_in_another_space :
    IsRun s owed_in_app
    × (first_broken s owed_in_app (lost Initial ((0, 0) ∷ []) 100000) ≡ Some rule.LossNotOwed)
    × (first_broken s owed_in_app (lost Handshake ((0, 0) ∷ []) 100000) ≡ Some rule.LossNotOwed)
    × IsRun s (lost App ((0, 0) ∷ []) 100000 ∷ owed_in_app)
unfolding first_broken
loss_is_owed_in_another_space = (((((((tt, refl), refl), refl), refl), refl), refl), refl, refl, (((((((tt, refl), refl), refl), refl), refl), refl), refl))

-- ---- the order of the rules, and the bytes

-- While a loss is owed each other event is refused for that, but one that goes back in time is refused for its time.
pub owed_loss_comes_before_the_other_rules :
    (first_broken s two_owed (ack App ((9, 9) ∷ []) 100000) ≡ Some rule.LossOwed)
    × (first_broken s two_owed (Discard 100000 Handshake) ≡ Some rule.LossOwed)
    × (first_broken s two_owed (loss_fires App 100000) ≡ Some rule.LossOwed)
    × (first_broken s two_owed (metrics 100000 (Some 1) None None None None None None) ≡ Some rule.LossOwed)
    × (first_broken s two_owed (Keys 100000) ≡ Some rule.LossOwed)
    × (first_broken s two_owed (ack App ((9, 9) ∷ []) 99999) ≡ Some rule.TimeBack)
    × (first_broken s two_owed (lost App ((0, 1) ∷ []) 99999) ≡ Some rule.TimeBack)
unfolding first_broken
owed_loss_comes_before_the_other_rules = (refl, refl, refl, refl, refl, refl, refl)

-- A Lost line may come later than the detection; recovery began at the detection.
pub lost_line_may_come_later :
    IsRun s (lost App ((0, 1) ∷ []) 100005 ∷ two_owed)
    × ((reno s (lost App ((0, 1) ∷ []) 100005 ∷ two_owed)).recovery_start_time ≡ Some 100000)
unfolding first_broken
lost_line_may_come_later = ((((((((tt, refl), refl), refl), refl), refl), refl), refl), refl)

-- Of five packets of 1200 one was acknowledged, and two leave at the detection; the Lost line changes nothing more.
pub owed_packets_leave_at_the_detection :
    (bytes_in_flight s two_owed ≡ 2400)
    × (bytes_in_flight s (lost App ((0, 1) ∷ []) 100000 ∷ two_owed) ≡ 2400)
owed_packets_leave_at_the_detection = (refl, refl)

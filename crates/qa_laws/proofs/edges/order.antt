-- Edges of the order of the rules: where one event breaks two of them, the lesser is named.
--
-- Each pair of rules that one event of a run can break is here. Two pairs are not, as no event of a run breaks both: a probe is not
-- due where a loss is owed, since what finds a loss has answered the probe; and Handshake is discarded only once it is confirmed.
use Rattle.std.specs.Prelude.{◌≡◌, List, [], ◌∷◌, Some, None, refl}
use Rattle.qa_base.specs.declared.event.Event.{Event}
use Rattle.qa_base.specs.declared.event.Event.TheVariants.{Discard, Confirmed, Keys}
use Rattle.qa_base.specs.declared.rule.Rule.TheVariants as rule
use Rattle.qa_base.specs.declared.space.Space.TheVariants.{Initial, Handshake, App}
use Rattle.qa_base.specs.machine.Rules.{first_broken, IsRun}
use Rattle.qa_base.specs.values.Settings.{Settings}
use Rattle.qa_laws.proofs.Shorthand.{client, server, sent, padded, probe, recovery, ack, lost, loss_fires, pto_fires, metrics}

abbrev c : Settings
c = client 1200 12000

abbrev s : Settings
s = server 1200 12000

-- ---- a time that goes back, and another rule

-- Initial is gone, no timer is set, and no loss is owed.
abbrev one_gone : List Event
one_gone =
    Discard 100 Initial ∷
    sent App 0 0 1200 ∷ []

-- Lost lines, packets, acknowledgments, timers, discards and reports of 99, each of which breaks another rule as well: nothing is
-- owed; the space is gone; the number is not higher; the size is past the window; there was no probe timeout; there was no entry
-- into recovery; the number was not sent; no timer is set; the handshake is not confirmed; the window is another.
pub time_is_named_before_the_other_rules :
    IsRun s one_gone
    × (first_broken s one_gone (lost App ((0, 0) ∷ []) 99) ≡ Some rule.TimeBack)
    × (first_broken s one_gone (sent Initial 0 99 1200) ≡ Some rule.TimeBack)
    × (first_broken s one_gone (ack Initial ((0, 0) ∷ []) 99) ≡ Some rule.TimeBack)
    × (first_broken s one_gone (Discard 99 Initial) ≡ Some rule.TimeBack)
    × (first_broken s one_gone (sent App 0 99 1200) ≡ Some rule.TimeBack)
    × (first_broken s one_gone (sent App 1 99 60000) ≡ Some rule.TimeBack)
    × (first_broken s one_gone (probe App 1 99 1200) ≡ Some rule.TimeBack)
    × (first_broken s one_gone (recovery App 1 99 1200) ≡ Some rule.TimeBack)
    × (first_broken s one_gone (ack App ((7, 7) ∷ []) 99) ≡ Some rule.TimeBack)
    × (first_broken s one_gone (loss_fires App 99) ≡ Some rule.TimeBack)
    × (first_broken s one_gone (Discard 99 Handshake) ≡ Some rule.TimeBack)
    × (first_broken s one_gone (metrics 99 (Some 1) None None None None None None) ≡ Some rule.TimeBack)
unfolding first_broken
time_is_named_before_the_other_rules = (((tt, refl), refl), refl, refl, refl, refl, refl, refl, refl, refl, refl, refl, refl, refl)

-- The probe timeout of Initial was due at 999000.
abbrev timeout_due : List Event
timeout_due =
    Keys 1000000 ∷
    sent Initial 0 0 1200 ∷ []

-- It fired, and its probe is due; the next was due at 1998000.
abbrev probe_due : List Event
probe_due =
    Keys 3000000 ∷
    pto_fires Initial 999000 ∷
    sent Initial 0 0 1200 ∷ []

-- Timers that go back in time: one for another space, one before 999000, one while a probe is due.
pub time_is_named_before_the_rules_of_a_timer :
    (first_broken s timeout_due (pto_fires Handshake 999999) ≡ Some rule.TimeBack)
    × (first_broken s timeout_due (pto_fires Initial 998999) ≡ Some rule.TimeBack)
    × (first_broken s probe_due (pto_fires Initial 2999999) ≡ Some rule.TimeBack)
unfolding first_broken
time_is_named_before_the_rules_of_a_timer = (refl, refl, refl)

-- ---- a loss that is owed, and another rule

-- Packet 0 of App is owed, Initial is gone, and no timer is set.
abbrev owed_and_gone : List Event
owed_and_gone =
    ack App ((3, 3) ∷ []) 100000 ∷
    sent App 3 0 1200 ∷
    sent App 0 0 1200 ∷
    Discard 0 Initial ∷ []

-- The same rules as above, but for those of Lost lines and recovery; and a Lost line whose time goes back and whose numbers are
-- others.
pub owed_loss_is_named_before_the_other_rules :
    IsRun s owed_and_gone
    × (first_broken s owed_and_gone (sent Initial 0 100000 1200) ≡ Some rule.LossOwed)
    × (first_broken s owed_and_gone (ack Initial ((0, 0) ∷ []) 100000) ≡ Some rule.LossOwed)
    × (first_broken s owed_and_gone (Discard 100000 Initial) ≡ Some rule.LossOwed)
    × (first_broken s owed_and_gone (sent App 3 100000 1200) ≡ Some rule.LossOwed)
    × (first_broken s owed_and_gone (sent App 4 100000 60000) ≡ Some rule.LossOwed)
    × (first_broken s owed_and_gone (probe App 4 100000 1200) ≡ Some rule.LossOwed)
    × (first_broken s owed_and_gone (ack App ((7, 7) ∷ []) 100000) ≡ Some rule.LossOwed)
    × (first_broken s owed_and_gone (loss_fires App 100000) ≡ Some rule.LossOwed)
    × (first_broken s owed_and_gone (Discard 100000 Handshake) ≡ Some rule.LossOwed)
    × (first_broken s owed_and_gone (metrics 100000 (Some 1) None None None None None None) ≡ Some rule.LossOwed)
    × (first_broken s owed_and_gone (sent App 4 99999 1200) ≡ Some rule.TimeBack)
    × (first_broken s owed_and_gone (lost App ((3, 3) ∷ []) 99999) ≡ Some rule.TimeBack)
unfolding first_broken
owed_loss_is_named_before_the_other_rules = (((((tt, refl), refl), refl), refl), refl, refl, refl, refl, refl, refl, refl, refl, refl, refl, refl, refl)

-- Packets 0 and 1 are owed; packets 2 and 3 await their time, 112500.
abbrev owed_and_awaited : List Event
owed_and_awaited =
    ack App ((4, 4) ∷ []) 100000 ∷
    sent App 4 0 1200 ∷
    sent App 3 0 1200 ∷
    sent App 2 0 1200 ∷
    sent App 1 0 1200 ∷
    sent App 0 0 1200 ∷ []

-- Recovery began at 100000, and packet 4 spent its leave then. Packets 1, 2 and 4 are owed, which is no entry.
abbrev owed_in_recovery : List Event
owed_in_recovery =
    ack App ((7, 7) ∷ []) 200001 ∷
    sent App 7 100001 1200 ∷
    recovery App 4 100000 1200 ∷
    lost App ((0, 0) ∷ []) 100000 ∷
    ack App ((3, 3) ∷ []) 100000 ∷
    sent App 3 0 1200 ∷
    sent App 2 0 1200 ∷
    sent App 1 0 1200 ∷
    sent App 0 0 1200 ∷ []

-- Timers of another cause and before the time, and a packet whose leave is spent.
pub owed_loss_is_named_before_the_timer_and_recovery :
    IsRun s owed_and_awaited
    × (first_broken s owed_and_awaited (pto_fires App 112500) ≡ Some rule.LossOwed)
    × (first_broken s owed_and_awaited (loss_fires App 112499) ≡ Some rule.LossOwed)
    × IsRun s owed_in_recovery
    × (first_broken s owed_in_recovery (recovery App 8 200001 1200) ≡ Some rule.LossOwed)
unfolding first_broken
owed_loss_is_named_before_the_timer_and_recovery = (((((((tt, refl), refl), refl), refl), refl), refl), refl, refl, (((((((((tt, refl), refl), refl), refl), refl), refl), refl), refl), refl), refl)

-- A Lost line of a space where nothing is owed, with numbers that are owed nowhere.
pub space_of_a_loss_is_named_before_its_numbers :
    first_broken s owed_and_awaited (lost Initial ((5, 5) ∷ []) 100000) ≡ Some rule.LossNotOwed
unfolding first_broken
space_of_a_loss_is_named_before_its_numbers = refl

-- ---- two rules of a packet

-- Initial is gone after packet 3.
abbrev three_gone : List Event
three_gone =
    Discard 100 Initial ∷
    sent Initial 3 0 1200 ∷
    sent App 3 0 1200 ∷ []

-- In a discarded space: a number that is not higher, a size past the window, a probe without a timeout, a recovery packet without
-- an entry.
pub discarded_space_is_named_before_the_other_rules :
    IsRun s three_gone
    × (first_broken s three_gone (sent Initial 3 100 1200) ≡ Some rule.SpaceGone)
    × (first_broken s three_gone (sent Initial 4 100 60000) ≡ Some rule.SpaceGone)
    × (first_broken s three_gone (probe Initial 4 100 1200) ≡ Some rule.SpaceGone)
    × (first_broken s three_gone (recovery Initial 4 100 1200) ≡ Some rule.SpaceGone)
    × (first_broken s three_gone (ack Initial ((7, 7) ∷ []) 100) ≡ Some rule.SpaceGone)
unfolding first_broken
discarded_space_is_named_before_the_other_rules = ((((tt, refl), refl), refl), refl, refl, refl, refl, refl)

-- With a number that is not higher: the other three.
pub number_is_named_before_the_leave :
    (first_broken s three_gone (sent App 3 100 60000) ≡ Some rule.NumberNotHigher)
    × (first_broken s three_gone (probe App 3 100 1200) ≡ Some rule.NumberNotHigher)
    × (first_broken s three_gone (recovery App 3 100 1200) ≡ Some rule.NumberNotHigher)
unfolding first_broken
number_is_named_before_the_leave = (refl, refl, refl)

-- ---- two rules of a timer

-- The timer that a client keeps fired at 999000, and its probe is due. Confirmed at 1000000, it keeps none.
abbrev confirmed_with_a_probe_due : List Event
confirmed_with_a_probe_due =
    Confirmed 1000000 ∷
    pto_fires Initial 999000 ∷
    padded Initial 0 0 1200 ∷ []

-- A timer that is not set while a probe is due; one of another space or cause and before the time; one of another space while a
-- probe is due; one before the time while a probe is due.
pub rules_of_a_timer_are_named_in_their_order :
    IsRun c confirmed_with_a_probe_due
    × (first_broken c confirmed_with_a_probe_due (pto_fires Initial 5000000) ≡ Some rule.TimerNotSet)
    × (first_broken s (sent Initial 0 0 1200 ∷ []) (pto_fires Handshake 998999) ≡ Some rule.TimerOther)
    × (first_broken s (sent Initial 0 0 1200 ∷ []) (loss_fires Initial 998999) ≡ Some rule.TimerOther)
    × (first_broken s probe_due (pto_fires Handshake 3000000) ≡ Some rule.TimerOther)
    × (first_broken s (pto_fires Initial 999000 ∷ sent Initial 0 0 1200 ∷ []) (pto_fires Initial 1997999) ≡ Some rule.TimerEarly)
unfolding first_broken
rules_of_a_timer_are_named_in_their_order = ((((tt, refl), refl), refl), refl, refl, refl, refl, refl)

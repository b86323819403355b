-- Edges of the rules that are about any event: its time, and a loss that is owed.
use Rattle.std.specs.Prelude.{◌≡◌, List, [], ◌∷◌, Some, None, refl}
use Rattle.qa_base.specs.declared.event.Event.{Event}
use Rattle.qa_base.specs.declared.event.Event.TheVariants.{Discard, Confirmed, Keys}
use Rattle.qa_base.specs.declared.rule.Rule.TheVariants as rule
use Rattle.qa_base.specs.declared.space.Space.TheVariants.{Initial, App}
use Rattle.qa_base.specs.machine.Rules.{first_broken, IsRun}
use Rattle.qa_base.specs.values.Settings.{Settings}
use Rattle.qa_laws.proofs.Shorthand.{server, sent, ack, lost, loss_fires, pto_fires, metrics}

abbrev s : Settings
s = server 1200 12000

-- ---- the time

-- The probe timeout of Initial is due at 999000.
abbrev keys_late : List Event
keys_late =
    Keys 1000000 ∷
    sent Initial 0 0 1200 ∷ []

-- The time of packet 0 is 112500.
abbrev keys_after_an_acknowledgment : List Event
keys_after_an_acknowledgment =
    Keys 120000 ∷
    ack App ((1, 1) ∷ []) 100000 ∷
    sent App 1 0 1200 ∷
    sent App 0 0 1200 ∷ []

-- No event goes back in time by a microsecond, of whatever kind, though it breaks no other rule.
pub no_event_goes_back_in_time :
    (first_broken s keys_late (sent Initial 1 999999 1200) ≡ Some rule.TimeBack)
    × (first_broken s keys_late (ack Initial ((0, 0) ∷ []) 999999) ≡ Some rule.TimeBack)
    × (first_broken s keys_late (pto_fires Initial 999999) ≡ Some rule.TimeBack)
    × (first_broken s keys_after_an_acknowledgment (loss_fires App 119999) ≡ Some rule.TimeBack)
    × (first_broken s keys_late (Discard 999999 Initial) ≡ Some rule.TimeBack)
    × (first_broken s keys_late (Confirmed 999999) ≡ Some rule.TimeBack)
    × (first_broken s keys_late (Keys 999999) ≡ Some rule.TimeBack)
    × (first_broken s keys_late (metrics 999999 (Some 12000) None None None None None None) ≡ Some rule.TimeBack)
    × (first_broken s (loss_fires App 120000 ∷ keys_after_an_acknowledgment) (lost App ((0, 0) ∷ []) 119999) ≡ Some rule.TimeBack)
unfolding first_broken
no_event_goes_back_in_time = (refl, refl, refl, refl, refl, refl, refl, refl, refl)

-- At the same time as the event before each of them is allowed.
pub events_at_the_same_time_are_allowed :
    (first_broken s keys_late (sent Initial 1 1000000 1200) ≡ None)
    × (first_broken s keys_late (ack Initial ((0, 0) ∷ []) 1000000) ≡ None)
    × (first_broken s keys_late (pto_fires Initial 1000000) ≡ None)
    × (first_broken s keys_after_an_acknowledgment (loss_fires App 120000) ≡ None)
    × (first_broken s keys_late (Discard 1000000 Initial) ≡ None)
    × (first_broken s keys_late (Confirmed 1000000) ≡ None)
    × (first_broken s keys_late (Keys 1000000) ≡ None)
    × (first_broken s keys_late (metrics 1000000 (Some 12000) None None None None None None) ≡ None)
    × (first_broken s (loss_fires App 120000 ∷ keys_after_an_acknowledgment) (lost App ((0, 0) ∷ []) 120000) ≡ None)
unfolding first_broken
events_at_the_same_time_are_allowed = (refl, refl, refl, refl, refl, refl, refl, refl, refl)

-- ---- a loss that is owed

-- Packet 0 is owed, three below packet 3, and packets 1 and 2 await their time, 112500. An Initial packet is due at 0 + 300000.
abbrev one_owed : List Event
one_owed =
    ack App ((3, 3) ∷ []) 100000 ∷
    sent App 3 0 1200 ∷
    sent App 2 0 1200 ∷
    sent App 1 0 1200 ∷
    sent App 0 0 1200 ∷
    sent Initial 0 0 1200 ∷ []

-- The Lost line comes first. Each other event is refused for the loss that is owed, and is allowed after it, but for the probe
-- timeout, which comes after the loss timer.
pub owed_loss_refuses_each_other_event :
    IsRun s one_owed
    × (first_broken s one_owed (sent App 4 112500 1200) ≡ Some rule.LossOwed)
    × (first_broken s one_owed (ack Initial ((0, 0) ∷ []) 112500) ≡ Some rule.LossOwed)
    × (first_broken s one_owed (loss_fires App 112500) ≡ Some rule.LossOwed)
    × (first_broken s one_owed (pto_fires Initial 300000) ≡ Some rule.LossOwed)
    × (first_broken s one_owed (Discard 112500 Initial) ≡ Some rule.LossOwed)
    × (first_broken s one_owed (Confirmed 112500) ≡ Some rule.LossOwed)
    × (first_broken s one_owed (Keys 112500) ≡ Some rule.LossOwed)
    × (first_broken s one_owed (metrics 112500 (Some 6000) None None None None None None) ≡ Some rule.LossOwed)
    × (first_broken s one_owed (lost App ((0, 0) ∷ []) 112500) ≡ None)
unfolding first_broken
owed_loss_refuses_each_other_event = (((((((tt, refl), refl), refl), refl), refl), refl), refl, refl, refl, refl, refl, refl, refl, refl, refl)

abbrev one_declared : List Event
one_declared =
    lost App ((0, 0) ∷ []) 112500 ∷
    one_owed

pub events_after_the_lost_line_are_allowed :
    (first_broken s one_declared (sent App 4 112500 1200) ≡ None)
    × (first_broken s one_declared (ack Initial ((0, 0) ∷ []) 112500) ≡ None)
    × (first_broken s one_declared (loss_fires App 112500) ≡ None)
    × (first_broken s one_declared (pto_fires Initial 300000) ≡ Some rule.TimerOther)
    × (first_broken s one_declared (Discard 112500 Initial) ≡ None)
    × (first_broken s one_declared (Confirmed 112500) ≡ None)
    × (first_broken s one_declared (Keys 112500) ≡ None)
    × (first_broken s one_declared (metrics 112500 (Some 6000) None None None None None None) ≡ None)
unfolding first_broken
events_after_the_lost_line_are_allowed = (refl, refl, refl, refl, refl, refl, refl, refl)

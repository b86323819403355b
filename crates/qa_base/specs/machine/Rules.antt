-- The rules, the first that an event breaks, and runs.
--
-- `c` are the settings of the header, `h` is the history.
use Rattle.std.specs.Prelude.{◌≡◌, Bool, List, [], ◌∷◌, ◌++◌, Option, Some, None, if◌then◌else◌}
use Rattle.qa_base.specs.declared.event.Event.{Event}
use Rattle.qa_base.specs.declared.rule.Rule.{Rule}
use Rattle.qa_base.specs.declared.rule.Rule.TheVariants as rule
use Rattle.qa_base.specs.machine.Breaches.{is_time_back, is_loss_owed, is_loss_not_owed}
use Rattle.qa_base.specs.machine.Breaches.{is_other_loss_set, is_space_gone, is_number_not_higher}
use Rattle.qa_base.specs.machine.Breaches.{is_past_window, is_past_probe, is_past_recovery}
use Rattle.qa_base.specs.machine.Breaches.{is_ack_unsent, is_timer_not_set, is_timer_other}
use Rattle.qa_base.specs.machine.Breaches.{is_timer_early, is_probe_owed, is_not_confirmed}
use Rattle.qa_base.specs.machine.Breaches.{is_timer_late, is_collapse_missing}
use Rattle.qa_base.specs.machine.Loss.{owed}
use Rattle.qa_base.specs.machine.Metrics.{metric_tests}
use Rattle.qa_base.specs.values.Settings.{Settings}

-- whether the event breaks each of the rules, in their order
abbrev pub broken : Settings → List Event → Event → List (Bool × Rule)
broken c h e =
    (is_time_back h e, rule.TimeBack)
    ∷ (is_loss_owed c h e, rule.LossOwed)
    ∷ (is_loss_not_owed c h e, rule.LossNotOwed)
    ∷ (is_other_loss_set c h e, rule.LossSet)
    ∷ (is_space_gone h e, rule.SpaceGone)
    ∷ (is_number_not_higher h e, rule.NumberNotHigher)
    ∷ (is_past_window c h e, rule.PastWindow)
    ∷ (is_past_probe c h e, rule.PastProbe)
    ∷ (is_past_recovery c h e, rule.PastRecovery)
    ∷ (is_ack_unsent h e, rule.AckUnsent)
    ∷ (is_timer_not_set c h e, rule.TimerNotSet)
    ∷ (is_timer_other c h e, rule.TimerOther)
    ∷ (is_timer_early c h e, rule.TimerEarly)
    ∷ (is_probe_owed h e, rule.ProbeOwed)
    ∷ (is_not_confirmed h e, rule.NotConfirmed)
    ∷ metric_tests c h e
    ++ (is_timer_late c h e, rule.TimerLate)
    ∷ (is_collapse_missing c h e, rule.CollapseMissing)
    ∷ []

-- the first that is broken
abbrev pub first_of : List (Bool × Rule) → Option Rule
first_of [] = None
first_of (test ∷ tests) = if test.0 then Some test.1 else first_of tests

-- the first rule that the event breaks after a history
unfoldable pub first_broken : Settings → List Event → Event → Option Rule
first_broken c h e = first_of (broken c h e)

-- each event of the history was allowed after those before it
abbrev pub IsRun : Settings → List Event → Type 0
IsRun c [] = Unit {0}
IsRun c (e ∷ before) = IsRun c before × (first_broken c before e ≡ None)

-- nothing is owed at its end (V17)
abbrev pub IsComplete : Settings → List Event → Type 0
IsComplete c h = owed c h ≡ []

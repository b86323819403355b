-- What the rules ask in parts.
use Rattle.std.specs.Prelude.{ℕ, ◌&&◌, not, nat_lt, Bool, List, [], ◌∷◌, Option, None}
use Rattle.qa_base.specs.declared.event.Event.{Event}
use Rattle.qa_base.specs.declared.event.Event.TheVariants.{Timer}
use Rattle.qa_base.specs.declared.rule.Rule.{Rule}
use Rattle.qa_base.specs.declared.rule.Rule.TheVariants as rule
use Rattle.qa_base.specs.declared.totals.Totals.{Totals}
use Rattle.qa_base.specs.machine.Breaches.{is_time_back, is_loss_owed, is_loss_not_owed}
use Rattle.qa_base.specs.machine.Breaches.{is_other_loss_set, is_space_gone, is_number_not_higher}
use Rattle.qa_base.specs.machine.Breaches.{is_past_window, is_past_probe, is_past_recovery}
use Rattle.qa_base.specs.machine.Breaches.{is_ack_unsent, is_timer_not_set, is_timer_other}
use Rattle.qa_base.specs.machine.Breaches.{is_timer_early, is_probe_owed, is_not_confirmed}
use Rattle.qa_base.specs.machine.Breaches.{is_timer_late, is_collapse_missing}
use Rattle.qa_base.specs.machine.Violations.{most_doublings}
use Rattle.qa_base.specs.machine.Rtt.{Estimate}
use Rattle.qa_base.specs.machine.Timer.{Due, deadline, pto_count}
use Rattle.qa_base.specs.values.Settings.{Settings}

-- what the timer is set for, as a timer finds it
abbrev pub deadline_at : Settings → List Event → Event → Option Due
deadline_at c h (Timer time kind space) = deadline c h
deadline_at c h _ = None

-- the totals of so many events with this window and ssthresh, estimate, bytes in flight, PTO count
-- and number of packets owed
abbrev pub totals_of : ℕ → ℕ → Option ℕ → Estimate → ℕ → ℕ → ℕ → Totals
totals_of events window ssthresh estimate bytes count owed = record {
  events = events;
  window = window;
  ssthresh = ssthresh;
  bytes_in_flight = bytes;
  latest_rtt = estimate.latest_rtt;
  min_rtt = estimate.min_rtt;
  smoothed_rtt = estimate.smoothed_rtt;
  rttvar = estimate.rttvar;
  pto_count = count;
  owed = owed;
}

-- ---- the tests of rules, in parts

-- V1 to V6, whether the event breaks each
abbrev pub tests_of_packets : Settings → List Event → Event → List (Bool × Rule)
tests_of_packets c h e =
    (is_time_back h e, rule.TimeBack)
    ∷ (is_loss_owed c h e, rule.LossOwed)
    ∷ (is_loss_not_owed c h e, rule.LossNotOwed)
    ∷ (is_other_loss_set c h e, rule.LossSet)
    ∷ (is_space_gone h e, rule.SpaceGone)
    ∷ (is_number_not_higher h e, rule.NumberNotHigher)
    ∷ []

-- V13, where the timeout cannot be doubled once more
abbrev pub is_timer_untolerated : Settings → List Event → Event → Bool
is_timer_untolerated c h e = is_timer_early c h e && not (nat_lt (pto_count c h) most_doublings)

-- V10 to V13 and V15, whether the machine does not go on past each
abbrev pub tests_of_answers : Settings → List Event → Event → List (Bool × Rule)
tests_of_answers c h e =
    (is_ack_unsent h e, rule.AckUnsent)
    ∷ (is_timer_not_set c h e, rule.TimerNotSet)
    ∷ (is_timer_other c h e, rule.TimerOther)
    ∷ (is_timer_untolerated c h e, rule.TimerEarly)
    ∷ (is_not_confirmed h e, rule.NotConfirmed)
    ∷ []

-- V1 to V9
abbrev pub all_of_packets : Settings → List Event → Event → List (Bool × Rule)
all_of_packets c h e =
    (is_time_back h e, rule.TimeBack)
    ∷ (is_loss_owed c h e, rule.LossOwed)
    ∷ (is_loss_not_owed c h e, rule.LossNotOwed)
    ∷ (is_other_loss_set c h e, rule.LossSet)
    ∷ (is_space_gone h e, rule.SpaceGone)
    ∷ (is_number_not_higher h e, rule.NumberNotHigher)
    ∷ (is_past_window c h e, rule.PastWindow)
    ∷ (is_past_probe c h e, rule.PastProbe)
    ∷ (is_past_recovery c h e, rule.PastRecovery)
    ∷ []

-- V10 to V15
abbrev pub all_of_answers : Settings → List Event → Event → List (Bool × Rule)
all_of_answers c h e =
    (is_ack_unsent h e, rule.AckUnsent)
    ∷ (is_timer_not_set c h e, rule.TimerNotSet)
    ∷ (is_timer_other c h e, rule.TimerOther)
    ∷ (is_timer_early c h e, rule.TimerEarly)
    ∷ (is_probe_owed h e, rule.ProbeOwed)
    ∷ (is_not_confirmed h e, rule.NotConfirmed)
    ∷ []

-- V18 and V19
abbrev pub all_of_lateness : Settings → List Event → Event → List (Bool × Rule)
all_of_lateness c h e =
    (is_timer_late c h e, rule.TimerLate)
    ∷ (is_collapse_missing c h e, rule.CollapseMissing)
    ∷ []

-- What a sender reports of its own state, compared with the machine's.
--
-- `c` are the settings of the header, `h` is the history.
use Rattle.std.specs.Prelude.{ℕ, ◌&&◌, not, nat_lt, Bool, true, false, List, [], ◌∷◌, map, Option}
use Rattle.std.specs.Prelude.{Some, None}
use Rattle.qa_base.specs.declared.event.Event.{Event}
use Rattle.qa_base.specs.declared.event.Event.TheVariants.{Metrics}
use Rattle.qa_base.specs.declared.event.MetricValues.{MetricValues}
use Rattle.qa_base.specs.declared.rule.Field.{Field}
use Rattle.qa_base.specs.declared.rule.Field.TheVariants.{Window, Ssthresh, BytesInFlight}
use Rattle.qa_base.specs.declared.rule.Field.TheVariants.{LatestRtt, MinRtt, SmoothedRtt, Rttvar}
use Rattle.qa_base.specs.declared.rule.Rule.{Rule}
use Rattle.qa_base.specs.declared.rule.Rule.TheVariants as rule
use Rattle.qa_base.specs.declared.totals.Totals.{Totals}
use Rattle.qa_base.specs.values.Settings.{Settings, in_unit, is_reported}
use Rattle.qa_base.specs.machine.Rtt.{distance}
use Rattle.qa_base.specs.machine.State.{totals}

-- a reported value differs from the machine's, which may be none, by more than the slack
abbrev pub differs : ℕ → Option ℕ → Option ℕ → Bool
differs slack None held = false
differs slack (Some reported) None = true
differs slack (Some reported) (Some held) = nat_lt slack (distance reported held)

-- by more than the slack of bytes
abbrev pub differs_in_bytes : Settings → Option ℕ → Option ℕ → Bool
differs_in_bytes c reported held = differs c.options.report_slack_bytes reported held

-- by more than the slack of times, which the header says in microseconds
abbrev pub differs_in_time : Settings → Option ℕ → ℕ → Bool
differs_in_time c reported held =
    differs (in_unit c.unit c.options.report_slack_us) reported (Some held)

-- the window and ssthresh are compared where they are NewReno's
abbrev pub differs_in_control : Settings → Option ℕ → Option ℕ → Bool
differs_in_control c reported held =
    not (is_reported c.options.controller) && differs_in_bytes c reported held

-- whether each reported value differs, in the order of the format
abbrev pub differences : Settings → MetricValues → Totals → List (Bool × Field)
differences c values held =
    (differs_in_control c values.window (Some held.window), Window)
    ∷ (differs_in_control c values.ssthresh held.ssthresh, Ssthresh)
    ∷ (differs_in_bytes c values.bytes_in_flight (Some held.bytes_in_flight), BytesInFlight)
    ∷ (differs_in_time c values.latest_rtt held.latest_rtt, LatestRtt)
    ∷ (differs_in_time c values.min_rtt held.min_rtt, MinRtt)
    ∷ (differs_in_time c values.smoothed_rtt held.smoothed_rtt, SmoothedRtt)
    ∷ (differs_in_time c values.rttvar held.rttvar, Rttvar)
    ∷ []

-- the rule that each value breaks, where it differs
abbrev pub tests : Settings → MetricValues → Totals → List (Bool × Rule)
tests c values held = map (λ test. (test.0, rule.Metric test.1)) (differences c values held)

-- V16: whether the event breaks the rule by each value
abbrev pub metric_tests : Settings → List Event → Event → List (Bool × Rule)
metric_tests c h (Metrics time values) = tests c values (totals c h)
metric_tests c h _ = []

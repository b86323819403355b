-- Headers that allow nothing, and histories to whose events nothing was allowed.
--
-- `c` are the settings of the header, `h` is the history.
use Rattle.std.specs.Prelude.{◌≡◌, ℕ, false, Bool, List, [], ◌∷◌, Some}
use Rattle.qa_base.specs.declared.event.Event.{Event}
use Rattle.qa_base.specs.declared.event.MetricValues.{MetricValues}
use Rattle.qa_base.specs.declared.header.Version.TheVariants.{Three}
use Rattle.qa_base.specs.declared.rule.Field.{Field}
use Rattle.qa_base.specs.declared.rule.Field.TheVariants as field
use Rattle.qa_base.specs.declared.totals.Totals.{Totals}
use Rattle.qa_base.specs.machine.Metrics.{differs_in_bytes, differs_in_control, differs_in_time}
use Rattle.qa_base.specs.values.Settings.{Settings, in_unit}
use Rattle.qa_violations.specs.allowed.Allowed.{allowed}

-- the header in version 3, with no window that may be overshot, no slack, and timers that are
-- neither early nor late
abbrev pub strict_header : Settings → Settings
strict_header c =
    record c {
      version = Three;
      options = record (c.options) {
        timer_late = Some 0;
        report_slack_us = 0;
        report_slack_bytes = 0;
        window_overshoot = false;
        timer_early_us = 0;
      };
    }

-- no event of the history was allowed anything
abbrev pub IsAllowedNothing : Settings → List Event → Type 0
IsAllowedNothing c [] = Unit {0}
IsAllowedNothing c (e ∷ h) = IsAllowedNothing c h × (allowed c h e ≡ [])

-- a reported value breaks V16
abbrev pub differs_at : Settings → MetricValues → Totals → Field → Bool
differs_at c values held field.Window = differs_in_control c values.window (Some held.window)
differs_at c values held field.Ssthresh = differs_in_control c values.ssthresh held.ssthresh
differs_at c values held field.BytesInFlight =
    differs_in_bytes c values.bytes_in_flight (Some held.bytes_in_flight)
differs_at c values held field.LatestRtt = differs_in_time c values.latest_rtt held.latest_rtt
differs_at c values held field.MinRtt = differs_in_time c values.min_rtt held.min_rtt
differs_at c values held field.SmoothedRtt =
    differs_in_time c values.smoothed_rtt held.smoothed_rtt
differs_at c values held field.Rttvar = differs_in_time c values.rttvar held.rttvar

-- by how much a reported value may differ, in bytes or in the unit of times
abbrev pub slack_in : Settings → Field → ℕ
slack_in c field.Window = c.options.report_slack_bytes
slack_in c field.Ssthresh = c.options.report_slack_bytes
slack_in c field.BytesInFlight = c.options.report_slack_bytes
slack_in c field.LatestRtt = in_unit c.unit c.options.report_slack_us
slack_in c field.MinRtt = in_unit c.unit c.options.report_slack_us
slack_in c field.SmoothedRtt = in_unit c.unit c.options.report_slack_us
slack_in c field.Rttvar = in_unit c.unit c.options.report_slack_us

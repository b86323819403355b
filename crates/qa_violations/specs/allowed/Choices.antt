-- The keys of a header by which the machine is another than that of RFC 9002, or by which a rule
-- allows more.
use Rattle.std.specs.Prelude.{ℕ, ◌==◌, not, Bool, List, [], ◌∷◌, ◌++◌, Option, Some}
use Rattle.std.specs.Prelude.{None, if◌then◌else◌}
use Rattle.qa_base.specs.declared.header.Options.{Options}
use Rattle.qa_base.specs.declared.key.Key.{Key}
use Rattle.qa_base.specs.declared.key.Key.TheVariants as key
use Rattle.qa_base.specs.declared.rule.Field.{Field}
use Rattle.qa_base.specs.declared.rule.Rule.{Rule}
use Rattle.qa_base.specs.declared.rule.Rule.TheVariants as rule
use Rattle.qa_base.specs.values.Constants.{default_packet_threshold}
use Rattle.qa_base.specs.values.Constants.{default_time_threshold_eighths}
use Rattle.qa_base.specs.values.Settings.{is_may, counts_packets, is_reported}
use Rattle.qa_explain.specs.text.Values.{is_of_bytes}

-- ---- what a rule allows

-- the key of the slack of a reported value
abbrev pub slack_key : Field → Key
slack_key f = if is_of_bytes f then key.ReportSlackBytes else key.ReportSlackUs

-- that slack, as the header says it
abbrev pub slack : Options → Field → ℕ
slack o f = if is_of_bytes f then o.report_slack_bytes else o.report_slack_us

-- the key by which the header allows what goes past the rule
abbrev pub key_of : Rule → Option Key
key_of rule.PastWindow = Some key.WindowOvershoot
key_of rule.TimerEarly = Some key.TimerEarlyUs
key_of (rule.Metric f) = Some (slack_key f)
key_of rule.TimerLate = Some key.TimerLateUs
key_of rule.CollapseMissing = Some key.ReportSlackBytes
key_of _ = None

-- how much it allows, as the key says it: bytes or microseconds; none where it sets no limit
abbrev pub limit_of : Options → Rule → Option ℕ
limit_of o rule.TimerEarly = Some o.timer_early_us
limit_of o (rule.Metric f) = Some (slack o f)
limit_of o rule.TimerLate = o.timer_late
limit_of o rule.CollapseMissing = Some o.report_slack_bytes
limit_of o _ = None

-- ---- what the sender chooses

-- the key, where it is set
abbrev pub chosen : Bool → Key → List Key
chosen is k = if is then k ∷ [] else []

-- the keys that are set to another machine, in the order of the header: `min_rtt` is refreshed
-- (RFC 9002, section 5.2), the window is the one that is reported (7), fewer acknowledgments give a
-- sample (5.1), the packet threshold is another (6.1.1), packets past it may be spared, it counts
-- packets and not their numbers, persistent congestion resets the RTT (5.2), the latest one is kept
-- less the peer's delay (5.3), the time threshold is another (6.1.2), or recovery goes by the order
-- of the lines (7.3.2)
unfoldable pub choices : Options → List Key
choices o =
    chosen o.refresh_min_rtt key.RefreshMinRtt
    ++ chosen (is_reported o.controller) key.Window
    ++ chosen o.sample_eliciting_only key.SampleElicitingOnly
    ++ chosen (not (o.packet_threshold == default_packet_threshold)) key.PacketThreshold
    ++ chosen (is_may o.loss_by_number) key.LossByNumber
    ++ chosen (counts_packets o.threshold_counts) key.ThresholdCounts
    ++ chosen o.reset_rtt key.ResetRtt
    ++ chosen o.latest_rtt_less_delay key.LatestRttLessDelay
    ++ chosen (not (o.time_threshold_eighths == default_time_threshold_eighths))
    key.TimeThresholdEighths
    ++ chosen o.recovery_by_order key.RecoveryByOrder

-- Members with one more, or several.
use Rattle.std.specs.Prelude.{ℕ}
use Rattle.serde_json.specs.Data.{Data, Members, no_members, put}
use Rattle.qa_base.specs.declared.key.Key.{Key}
use Rattle.qa_base.specs.declared.key.Key.TheVariants as key
use Rattle.qa_base.specs.declared.header.Options.{Options}
use Rattle.qa_base.specs.declared.header.Version.{Version}
use Rattle.qa_base.specs.declared.header.Version.TheVariants.{One, Two, Three}
use Rattle.qa_base.specs.declared.line_kind.LineKind.{LineKind}
use Rattle.qa_base.specs.values.Names.{key_name, line_kind_name, unit_name, controller_name}
use Rattle.qa_base.specs.values.Names.{loss_by_number_name, threshold_counts_name}
use Rattle.qa_base.specs.values.Settings.{Settings}
use Rattle.qa_format.specs.format.Written.{integer, boolean, string}

-- the members with this one
abbrev pub with : Key → Data → Members → Members
with k d ms = put (key_name k) d ms

-- the members with the numbers that a header of each version has
abbrev pub with_settings : Settings → Members → Members
with_settings s ms =
    with key.MaxDatagramSize (integer s.max_datagram_size)
    (with key.MaxAckDelay (integer s.max_ack_delay)
    (with key.InitialWindow (integer s.initial_window)
    (with key.InitialRtt (integer s.initial_rtt) ms)))

-- the members with the options that a header of version 2 always says
abbrev pub with_refresh_and_slack : Options → Members → Members
with_refresh_and_slack options ms =
    with key.ReportSlackUs (integer options.report_slack_us)
    (with key.ReportSlackBytes (integer options.report_slack_bytes)
    (with key.RefreshMinRtt (boolean options.refresh_min_rtt) ms))

-- the same of each version
abbrev pub with_options : Version → Options → Members → Members
with_options One options ms = ms
with_options Two options ms = with_refresh_and_slack options ms
with_options Three options ms = with_refresh_and_slack options ms

-- the members with what only a header of version 3 says of losses and of the RTT
abbrev pub with_loss_choices : Options → Members → Members
with_loss_choices o ms =
    with key.TimeThresholdEighths (integer o.time_threshold_eighths)
    (with key.ThresholdCounts (string (threshold_counts_name o.threshold_counts))
    (with key.ResetRtt (boolean o.reset_rtt)
    (with key.RecoveryByOrder (boolean o.recovery_by_order)
    (with key.PacketThreshold (integer o.packet_threshold)
    (with key.LossByNumber (string (loss_by_number_name o.loss_by_number))
    (with key.LatestRttLessDelay (boolean o.latest_rtt_less_delay) ms))))))

-- the members with the keys that only a header of version 3 has
abbrev pub with_unit_and_choices : Version → Settings → Members → Members
with_unit_and_choices One s ms = ms
with_unit_and_choices Two s ms = ms
with_unit_and_choices Three s ms =
    with key.WindowOvershoot (boolean s.options.window_overshoot)
    (with key.Window (string (controller_name s.options.controller))
    (with key.Unit (string (unit_name s.unit))
    (with key.TimerEarlyUs (integer s.options.timer_early_us)
    (with key.SampleElicitingOnly (boolean s.options.sample_eliciting_only)
    (with_loss_choices s.options ms)))))

-- the members that each event has
abbrev pub event_members : LineKind → ℕ → Members
event_members kind time =
    with key.Time (integer time) (with key.Event (string (line_kind_name kind)) no_members)

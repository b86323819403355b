-- The keys of each kind of line, in the order in which their faults are looked for, and what the
-- line then says.
use Rattle.std.specs.Prelude.{ℕ, ◌==◌, ◌&&◌, not, List, Bool, false, Option, Some, None, Result, Ok}
use Rattle.std.specs.Prelude.{Err, if◌then◌else◌}
use Rattle.std.specs.Result.{result_map_both}
use Rattle.serde_json.specs.Data.{Data}
use Rattle.qa_format.specs.declared.fault.Fault.{Fault}
use Rattle.qa_format.specs.declared.fault.Fault.TheVariants as fault
use Rattle.qa_format.specs.declared.fault.Fault.TheVariants.{OutOfRange, FlagsClash}
use Rattle.qa_base.specs.declared.key.RangeFault.{RangeFault}
use Rattle.qa_base.specs.declared.key.Key.TheVariants as key
use Rattle.qa_base.specs.declared.event.Event.{Event}
use Rattle.qa_base.specs.declared.event.Event.TheVariants.{Sent, Ack, Lost, Timer, Discard}
use Rattle.qa_base.specs.declared.event.Event.TheVariants.{Confirmed, Keys, Metrics}
use Rattle.qa_base.specs.declared.event.MetricValues.{MetricValues}
use Rattle.qa_base.specs.declared.header.Options.{Options}
use Rattle.qa_base.specs.declared.header.Version.TheVariants.{One, Two, Three}
use Rattle.qa_base.specs.declared.rule.Field.{Field}
use Rattle.qa_base.specs.declared.rule.Field.TheVariants.{Window, Ssthresh, BytesInFlight}
use Rattle.qa_base.specs.declared.rule.Field.TheVariants.{LatestRtt, MinRtt, SmoothedRtt, Rttvar}
use Rattle.qa_base.specs.declared.space.Controller.{Controller}
use Rattle.qa_base.specs.declared.space.Controller.TheVariants.{NewReno}
use Rattle.qa_base.specs.declared.space.LossByNumber.{LossByNumber}
use Rattle.qa_base.specs.declared.space.LossByNumber.TheVariants.{Must, May}
use Rattle.qa_base.specs.declared.space.ThresholdCounts.{ThresholdCounts}
use Rattle.qa_base.specs.declared.space.ThresholdCounts.TheVariants.{Numbers, Packets}
use Rattle.qa_base.specs.declared.space.TimerKind.{TimerKind}
use Rattle.qa_base.specs.declared.space.Permission.{Permission}
use Rattle.qa_base.specs.declared.space.Permission.TheVariants as leaves
use Rattle.qa_base.specs.declared.space.Space.{Space}
use Rattle.qa_base.specs.declared.space.Role.{Role}
use Rattle.qa_base.specs.declared.space.TimeUnit.{TimeUnit}
use Rattle.qa_base.specs.declared.space.TimeUnit.TheVariants.{Microseconds}
use Rattle.qa_format.specs.format.Keys.{◌>>=◌, both, integer, integer_from, string_among}
use Rattle.qa_format.specs.format.Keys.{string_naming, boolean, ranges, required, optional}
use Rattle.qa_format.specs.format.Keys.{if_present}
use Rattle.qa_base.specs.values.Constants.{default_packet_threshold}
use Rattle.qa_base.specs.values.Constants.{default_time_threshold_eighths}
use Rattle.qa_base.specs.values.Limits.{max_time, max_packet_number, max_packet_size}
use Rattle.qa_base.specs.values.Names.{version_number, role_named, unit_named, controller_named}
use Rattle.qa_base.specs.values.Names.{loss_by_number_named, threshold_counts_named, space_named}
use Rattle.qa_base.specs.values.Names.{discarded_named}
use Rattle.qa_base.specs.values.Names.{permission_named, kind_named}
use Rattle.qa_base.specs.values.Settings.{Settings, no_options, settings_in, with_options}
use Rattle.qa_base.specs.values.Settings.{choosing_options}

-- the keys that several kinds of line have
abbrev pub time : Data → Result ℕ Fault
time = required (integer_from 0 max_time) key.Time

abbrev pub space : Data → Result Space Fault
space = required (string_among space_named) key.Space

-- ---- the header

abbrev pub version : Data → Result ℕ Fault
version = required integer key.Version

-- a value that is out of its range is a fault of its key
abbrev pub out_of_range : Result Settings RangeFault → Result Settings Fault
out_of_range r = result_map_both (λ s. s) (λ e. OutOfRange e.0) r

abbrev pub unit_and_window_for : Result ℕ Fault → Data → Result (TimeUnit × Controller) Fault
unit_and_window_for (Ok n) d =
    if n == version_number Three
    then both (optional (string_among unit_named) Microseconds key.Unit d)
    (optional (string_among controller_named) NewReno key.Window d)
    else Ok (Microseconds, NewReno)
unit_and_window_for (Err e) d = Ok (Microseconds, NewReno)

-- the unit of times, and by whose window packets are judged, which only version 3 has keys for:
-- they are looked at where the version is 3
abbrev pub unit_and_window : Data → Result (TimeUnit × Controller) Fault
unit_and_window d = unit_and_window_for (version d) d

-- version and role, unit and window, max_datagram_size and max_ack_delay, initial_rtt and
-- initial_window, whose numbers are not compared with their ranges yet
abbrev pub header_fields : Data
    → Result
    ((ℕ × Role) × ((TimeUnit × Controller) × ((ℕ × Option ℕ) × (Option ℕ × Option ℕ)))) Fault
header_fields d =
    both (both (version d) (required (string_among role_named) key.Role d))
    (both (unit_and_window d)
    (both (both (required integer key.MaxDatagramSize d) (if_present integer key.MaxAckDelay d))
    (both (if_present integer key.InitialRtt d) (if_present integer key.InitialWindow d))))

-- timer_late_us and refresh_min_rtt, report_slack_us and report_slack_bytes, whose numbers are not
-- compared with their ranges yet
abbrev pub option_fields : Data → Result ((Option ℕ × Bool) × (ℕ × ℕ)) Fault
option_fields d =
    both (both (if_present integer key.TimerLateUs d) (optional boolean false key.RefreshMinRtt d))
    (both (optional integer 0 key.ReportSlackUs d) (optional integer 0 key.ReportSlackBytes d))

-- what the words for losses by number and for what the packet threshold counts name, if anything:
-- they are judged behind all numbers before them
abbrev pub Words : Type 0
Words = Option LossByNumber × Option ThresholdCounts

-- window_overshoot and sample_eliciting_only, packet_threshold and timer_early_us, likewise; the
-- words of loss_by_number and threshold_counts; reset_rtt and latest_rtt_less_delay; and
-- time_threshold_eighths and recovery_by_order
abbrev pub choice_fields : Data
    → Result ((Bool × Bool) × ((ℕ × ℕ) × (Words × ((Bool × Bool) × (ℕ × Bool))))) Fault
choice_fields d =
    both (both (optional boolean false key.WindowOvershoot d)
    (optional boolean false key.SampleElicitingOnly d))
    (both (both (optional integer default_packet_threshold key.PacketThreshold d)
    (optional integer 0 key.TimerEarlyUs d))
    (both (both (optional (string_naming loss_by_number_named) (Some Must) key.LossByNumber d)
    (optional (string_naming threshold_counts_named) (Some Numbers) key.ThresholdCounts d))
    (both (both (optional boolean false key.ResetRtt d)
    (optional boolean false key.LatestRttLessDelay d))
    (both (optional integer default_time_threshold_eighths key.TimeThresholdEighths d)
    (optional boolean false key.RecoveryByOrder d)))))

-- options, and what is judged behind them: the words, and the time threshold in eighths
abbrev pub SaidOptions : Type 0
SaidOptions = Options × (Words × ℕ)

-- no word and no time threshold
abbrev pub nothing_behind : Words × ℕ
nothing_behind = ((Some Must, Some Numbers), default_time_threshold_eighths)

-- the options of version 2, under which losses by number must be declared
abbrev pub version_two_options : Data → Result SaidOptions Fault
version_two_options d =
    option_fields d >>= λ ((timer_late, refresh_min_rtt), (report_slack_us, report_slack_bytes)).
    Ok (
      record no_options {
        timer_late = timer_late;
        refresh_min_rtt = refresh_min_rtt;
        report_slack_us = report_slack_us;
        report_slack_bytes = report_slack_bytes;
      },
      nothing_behind,
    )

-- the options of version 3, but for the window, and what is judged behind them
abbrev pub version_three_options : Data → Result SaidOptions Fault
version_three_options d =
    both (option_fields d) (choice_fields d)
    >>= λ (
      ((timer_late, refresh_min_rtt), (report_slack_us, report_slack_bytes)),
      (
        (window_overshoot, sample_eliciting_only),
        (
          (packet_threshold, timer_early_us),
          (words, ((reset_rtt, latest_rtt_less_delay), (time_threshold_eighths, by_order))),
        ),
      ),
    ).
    Ok (
      record no_options {
        timer_late = timer_late;
        refresh_min_rtt = refresh_min_rtt;
        report_slack_us = report_slack_us;
        report_slack_bytes = report_slack_bytes;
        window_overshoot = window_overshoot;
        sample_eliciting_only = sample_eliciting_only;
        packet_threshold = packet_threshold;
        timer_early_us = timer_early_us;
        reset_rtt = reset_rtt;
        latest_rtt_less_delay = latest_rtt_less_delay;
        recovery_by_order = by_order;
      },
      (words, time_threshold_eighths),
    )

abbrev pub options_for : Result ℕ Fault → Data → Result SaidOptions Fault
options_for (Ok n) d =
    if n == version_number Two then version_two_options d else
    (if n == version_number Three then version_three_options d else Ok (no_options, nothing_behind))
options_for (Err e) d = Ok (no_options, nothing_behind)

-- the keys of options, of which version 1 has none: they are looked at where the version has them
abbrev pub options : Data → Result SaidOptions Fault
options d = options_for (version d) d

-- the settings in this unit, each in its range
abbrev pub settings : TimeUnit → Role → ℕ → Option ℕ → Option ℕ → Option ℕ → Result Settings Fault
settings unit role max_datagram_size max_ack_delay initial_rtt initial_window =
    out_of_range (settings_in unit role max_datagram_size max_ack_delay initial_rtt initial_window)

-- the settings in the version of this number, with these options where it has options
abbrev pub of_version : ℕ → Options → Settings → Result Settings Fault
of_version n options s =
    if n == version_number One then Ok s else
    (if n == version_number Two then out_of_range (with_options s options) else
    (if n == version_number Three then out_of_range
    (choosing_options s options) else Err fault.Version))

-- the settings with the losses by number that the word names, which are judged after all numbers
abbrev pub with_losses : Option LossByNumber → Settings → Result Settings Fault
with_losses None s = Err (OutOfRange key.LossByNumber)
with_losses (Some Must) s = Ok s
with_losses (Some May) s =
    out_of_range (choosing_options s (record s.options { loss_by_number = May }))

-- the settings with what the word says that the packet threshold counts, which is judged behind it
abbrev pub with_counts : Option ThresholdCounts → Settings → Result Settings Fault
with_counts None s = Err (OutOfRange key.ThresholdCounts)
with_counts (Some Numbers) s = Ok s
with_counts (Some Packets) s =
    out_of_range (choosing_options s (record s.options { threshold_counts = Packets }))

-- the settings with the time threshold of so many eighths, which is judged behind both
abbrev pub with_eighths : ℕ → Settings → Result Settings Fault
with_eighths n s =
    if n == default_time_threshold_eighths then Ok s else out_of_range
    (choosing_options s (record s.options { time_threshold_eighths = n }))

-- the version is judged after all other keys
unfoldable pub header_of : Data → Result Settings Fault
header_of d =
    both (header_fields d) (options d)
    >>= λ (
      (
        (version, role),
        ((unit, controller), ((max_datagram_size, max_ack_delay), (initial_rtt, initial_window))),
      ),
      (options, ((by_number, counts), eighths)),
    ).
    settings unit role max_datagram_size max_ack_delay initial_rtt initial_window
    >>= of_version version (record options { controller = controller })
    >>= with_losses by_number
    >>= with_counts counts
    >>= with_eighths eighths

-- ---- packets

-- time, space, number, size, eliciting, in_flight and leave
abbrev pub sent_fields : Data
    → Result (ℕ × (Space × (ℕ × (ℕ × (Bool × (Bool × Permission)))))) Fault
sent_fields d =
    both (time d)
    (both (space d)
    (both (required (integer_from 0 max_packet_number) key.Number d)
    (both (required (integer_from 1 max_packet_size) key.Size d)
    (both (required boolean key.Eliciting d)
    (both (required boolean key.InFlight d)
    (optional (string_among permission_named) leaves.Window key.Leave d))))))

-- an ack-eliciting packet is in flight (RFC 9002, section 2)
unfoldable pub sent_of : Data → Result Event Fault
sent_of d =
    sent_fields d >>= λ (time, (space, (number, (size, (eliciting, (in_flight, permission)))))).
    if eliciting && not in_flight then Err FlagsClash else Ok
    (Sent (record {
      time = time;
      space = space;
      number = number;
      size = size;
      eliciting = eliciting;
      in_flight = in_flight;
      permission = permission;
    }))

-- time, space, ranges, delay and limited
abbrev pub ack_fields : Data → Result (ℕ × (Space × (List (ℕ × ℕ) × (ℕ × Bool)))) Fault
ack_fields d =
    both (time d)
    (both (space d)
    (both (required ranges key.Ranges d)
    (both (optional integer 0 key.Delay d)
    (optional boolean false key.Limited d))))

unfoldable pub ack_of : Data → Result Event Fault
ack_of d =
    ack_fields d >>= λ (time, (space, (ranges, (delay, app_limited)))). Ok
    (Ack (record {
      time = time;
      space = space;
      ranges = ranges;
      delay = delay;
      app_limited = app_limited;
    }))

-- time, space and ranges
abbrev pub lost_fields : Data → Result (ℕ × (Space × List (ℕ × ℕ))) Fault
lost_fields d = both (time d) (both (space d) (required ranges key.Ranges d))

unfoldable pub lost_of : Data → Result Event Fault
lost_of d = lost_fields d >>= λ (time, (space, ranges)). Ok (Lost time space ranges)

-- ---- the timer and the handshake

-- time, kind and space
abbrev pub timer_fields : Data → Result (ℕ × (TimerKind × Space)) Fault
timer_fields d = both (time d) (both (required (string_among kind_named) key.Kind d) (space d))

unfoldable pub timer_of : Data → Result Event Fault
timer_of d = timer_fields d >>= λ (time, (kind, space)). Ok (Timer time kind space)

-- time and space
abbrev pub discard_fields : Data → Result (ℕ × Space) Fault
discard_fields d = both (time d) (required (string_among discarded_named) key.Space d)

unfoldable pub discard_of : Data → Result Event Fault
discard_of d = discard_fields d >>= λ (time, space). Ok (Discard time space)

unfoldable pub confirmed_of : Data → Result Event Fault
confirmed_of d = time d >>= λ t. Ok (Confirmed t)

unfoldable pub keys_of : Data → Result Event Fault
keys_of d = time d >>= λ t. Ok (Keys t)

-- ---- a report of the sender's state

abbrev pub metric : Field → Data → Result (Option ℕ) Fault
metric f = if_present integer (key.Metric f)

-- each value where it is reported: window, ssthresh and bytes_in_flight, latest_rtt and min_rtt,
-- smoothed_rtt and rttvar
abbrev pub metric_values : Data → Result MetricValues Fault
metric_values d =
    both (both (metric Window d) (both (metric Ssthresh d) (metric BytesInFlight d)))
    (both (both (metric LatestRtt d) (metric MinRtt d))
    (both (metric SmoothedRtt d) (metric Rttvar d)))
    >>= λ ((window, (ssthresh, bytes_in_flight)), ((latest_rtt, min_rtt), (smoothed_rtt, rttvar))).
    Ok (record {
      window = window;
      ssthresh = ssthresh;
      bytes_in_flight = bytes_in_flight;
      latest_rtt = latest_rtt;
      min_rtt = min_rtt;
      smoothed_rtt = smoothed_rtt;
      rttvar = rttvar;
    })

unfoldable pub metrics_of : Data → Result Event Fault
metrics_of d = both (time d) (metric_values d) >>= λ (time, values). Ok (Metrics time values)

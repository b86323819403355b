-- What a header says.
use Rattle.std.specs.Prelude.{◌≡◌, ℕ, ◌≤◌, ◌*◌, ◌==◌, ◌&&◌, ◌||◌, not, min, max, nat_lt, Bool, true}
use Rattle.std.specs.Prelude.{false, List, [], ◌∷◌, Option, Some, None, unwrap_or, Result, Ok, Err}
use Rattle.std.specs.Prelude.{if◌then◌else◌}
use Rattle.std.specs.Option.{ForSome}
use Rattle.qa_base.specs.declared.key.Key.{Key}
use Rattle.qa_base.specs.declared.key.Key.TheVariants as key
use Rattle.qa_base.specs.declared.key.RangeFault.{RangeFault}
use Rattle.qa_base.specs.declared.header.Options.{Options}
use Rattle.qa_base.specs.declared.header.Version.{Version}
use Rattle.qa_base.specs.declared.header.Version.TheVariants.{One, Two, Three}
use Rattle.qa_base.specs.declared.space.Controller.{Controller}
use Rattle.qa_base.specs.declared.space.Controller.TheVariants.{NewReno, Reported}
use Rattle.qa_base.specs.declared.space.LossByNumber.{LossByNumber}
use Rattle.qa_base.specs.declared.space.LossByNumber.TheVariants.{Must, May}
use Rattle.qa_base.specs.declared.space.ThresholdCounts.{ThresholdCounts}
use Rattle.qa_base.specs.declared.space.ThresholdCounts.TheVariants.{Numbers, Packets}
use Rattle.qa_base.specs.declared.space.Role.{Role}
use Rattle.qa_base.specs.declared.space.TimeUnit.{TimeUnit}
use Rattle.qa_base.specs.declared.space.TimeUnit.TheVariants.{Microseconds, Nanoseconds}
use Rattle.qa_base.specs.values.Constants.{granularity_us, default_initial_rtt}
use Rattle.qa_base.specs.values.Constants.{default_max_ack_delay, default_packet_threshold}
use Rattle.qa_base.specs.values.Constants.{default_time_threshold_eighths}
use Rattle.qa_base.specs.values.Constants.{initial_window_datagrams, initial_window_bytes}
use Rattle.qa_base.specs.values.Constants.{minimum_window}
use Rattle.qa_base.specs.values.Limits.{max_packet_size, min_datagram_size, max_max_ack_delay}
use Rattle.qa_base.specs.values.Limits.{max_initial_rtt, max_initial_window, max_timer_late}
use Rattle.qa_base.specs.values.Limits.{max_report_slack_us, max_report_slack_bytes}
use Rattle.qa_base.specs.values.Limits.{min_packet_threshold, max_packet_threshold}
use Rattle.qa_base.specs.values.Limits.{max_timer_early_us}
use Rattle.qa_base.specs.values.Limits.{min_time_threshold_eighths, max_time_threshold_eighths}

-- ---- the unit of times

-- how many of a unit are a microsecond
abbrev pub per_microsecond : TimeUnit → ℕ
per_microsecond Microseconds = 1
per_microsecond Nanoseconds = 1000

-- so many microseconds, in this unit
abbrev pub in_unit : TimeUnit → ℕ → ℕ
in_unit unit microseconds = per_microsecond unit * microseconds

-- ---- what is asked

-- packets are judged by the window that the sender reports
abbrev pub is_reported : Controller → Bool
is_reported NewReno = false
is_reported Reported = true

-- a packet that lies the packet threshold behind may be spared
abbrev pub is_may : LossByNumber → Bool
is_may Must = false
is_may May = true

-- packets are counted for the packet threshold, and not their numbers
abbrev pub counts_packets : ThresholdCounts → Bool
counts_packets Numbers = false
counts_packets Packets = true

-- what a header of version 1 asks: no limit, no refresh and no slack, and a sender as RFC 9002 has
-- it
abbrev pub no_options : Options
no_options = record {
  timer_late = None;
  refresh_min_rtt = false;
  report_slack_us = 0;
  report_slack_bytes = 0;
  controller = NewReno;
  window_overshoot = false;
  sample_eliciting_only = false;
  packet_threshold = default_packet_threshold;
  timer_early_us = 0;
  loss_by_number = Must;
  threshold_counts = Numbers;
  reset_rtt = false;
  latest_rtt_less_delay = false;
  time_threshold_eighths = default_time_threshold_eighths;
  recovery_by_order = false;
}

-- version 2 can say these options
abbrev pub fit_version_two : Options → Bool
fit_version_two o =
    not (is_reported o.controller) && not o.window_overshoot && not o.sample_eliciting_only
    && o.packet_threshold == default_packet_threshold && o.timer_early_us == 0
    && not (is_may o.loss_by_number) && not (counts_packets o.threshold_counts)
    && not o.reset_rtt && not o.latest_rtt_less_delay
    && o.time_threshold_eighths == default_time_threshold_eighths && not o.recovery_by_order

-- packets may be spared, and the window is not one that the sender reports
abbrev pub spares_unreported : Options → Bool
spares_unreported o = is_may o.loss_by_number && not (is_reported o.controller)

-- a header of this version says this unit and these options
abbrev pub IsSaidIn : Version → TimeUnit → Options → Type 0
IsSaidIn One unit o = (unit ≡ Microseconds) × (o ≡ no_options)
IsSaidIn Two unit o = (unit ≡ Microseconds) × (fit_version_two o ≡ true)
IsSaidIn Three unit o = Unit {0}

-- ---- a header

-- a sender's role, the unit of its log and the parameters of its connection, and what is asked of
-- it: sizes and the window in bytes, times in the unit
pub record Settings : Type 0 where
  pub role : Role
  pub unit : TimeUnit
  pub max_datagram_size : ℕ
  pub max_ack_delay : ℕ
  pub initial_rtt : ℕ
  pub initial_window : ℕ
  pub version : Version
  pub options : Options

-- kGranularity (RFC 9002, section 6.1.2), in the unit
abbrev pub granularity : Settings → ℕ
granularity s = in_unit s.unit granularity_us

-- how early a timer may be, in the unit: no more than the greatest that a header says
abbrev pub early : Settings → ℕ
early s = in_unit s.unit (min s.options.timer_early_us max_timer_early_us)

-- each option is in its range
pub record AreOptionsInRange (o : Options) : Type 0 where
  pub late_high : ForSome o.timer_late (λ limit. limit ≤ max_timer_late)
  pub slack_us_high : o.report_slack_us ≤ max_report_slack_us
  pub slack_bytes_high : o.report_slack_bytes ≤ max_report_slack_bytes
  pub threshold_low : min_packet_threshold ≤ o.packet_threshold
  pub threshold_high : o.packet_threshold ≤ max_packet_threshold
  pub early_high : o.timer_early_us ≤ max_timer_early_us
  pub spared_reported : spares_unreported o ≡ false
  pub eighths_low : min_time_threshold_eighths ≤ o.time_threshold_eighths
  pub eighths_high : o.time_threshold_eighths ≤ max_time_threshold_eighths

-- each value is in its range, and the header's version says it: no options in version 1
pub record AreInRange (s : Settings) : Type 0 where
  pub datagram_low : min_datagram_size ≤ s.max_datagram_size
  pub datagram_high : s.max_datagram_size ≤ max_packet_size
  pub delay_high : s.max_ack_delay ≤ in_unit s.unit max_max_ack_delay
  pub rtt_low : 1 ≤ s.initial_rtt
  pub rtt_high : s.initial_rtt ≤ in_unit s.unit max_initial_rtt
  pub window_low : minimum_window s.max_datagram_size ≤ s.initial_window
  pub window_high : s.initial_window ≤ max_initial_window
  pub late_high : ForSome s.options.timer_late (λ limit. limit ≤ max_timer_late)
  pub slack_us_high : s.options.report_slack_us ≤ max_report_slack_us
  pub slack_bytes_high : s.options.report_slack_bytes ≤ max_report_slack_bytes
  pub threshold_low : min_packet_threshold ≤ s.options.packet_threshold
  pub threshold_high : s.options.packet_threshold ≤ max_packet_threshold
  pub early_high : s.options.timer_early_us ≤ max_timer_early_us
  pub spared_reported : spares_unreported s.options ≡ false
  pub eighths_low : min_time_threshold_eighths ≤ s.options.time_threshold_eighths
  pub eighths_high : s.options.time_threshold_eighths ≤ max_time_threshold_eighths
  pub first_version : s.version ≡ One → s.options ≡ no_options
  pub said : IsSaidIn s.version s.unit s.options

-- the window that a sender begins with (RFC 9002, section 7.2)
abbrev pub default_window : ℕ → ℕ
default_window max_datagram_size =
    min (initial_window_datagrams * max_datagram_size)
    (max (2 * max_datagram_size) initial_window_bytes)

-- n is not from lo to hi
abbrev pub is_outside : ℕ → ℕ → ℕ → Bool
is_outside lo hi n = nat_lt n lo || nat_lt hi n

-- the key of the first test that is so
abbrev pub first_outside : List (Bool × Key) → Option Key
first_outside [] = None
first_outside (test ∷ tests) = if test.0 then Some test.1 else first_outside tests

-- the settings, or the key of the first test that is so
abbrev pub unless_outside : List (Bool × Key) → Settings → Result Settings RangeFault
unless_outside [] s = Ok s
unless_outside (test ∷ tests) s =
    if test.0 then Err (record { 0 = test.1 }) else unless_outside tests s

-- whether each value is out of its range, in the order in which faults are looked for
abbrev pub values_outside : Settings → List (Bool × Key)
values_outside s =
    (is_outside min_datagram_size max_packet_size s.max_datagram_size, key.MaxDatagramSize)
    ∷ (is_outside 0 (in_unit s.unit max_max_ack_delay) s.max_ack_delay, key.MaxAckDelay)
    ∷ (is_outside 1 (in_unit s.unit max_initial_rtt) s.initial_rtt, key.InitialRtt)
    ∷ (
      is_outside (minimum_window s.max_datagram_size) max_initial_window s.initial_window,
      key.InitialWindow,
    )
    ∷ []

-- these values, or the key of the first that is out of its range
abbrev pub checked : Settings → Result Settings RangeFault
checked s = unless_outside (values_outside s) s

-- the first version that says this unit
abbrev pub version_in : TimeUnit → Version
version_in Microseconds = One
version_in Nanoseconds = Three

-- these values in this unit, with the default for each that is absent
abbrev pub settings_in : TimeUnit → Role → ℕ → Option ℕ → Option ℕ → Option ℕ
    → Result Settings RangeFault
settings_in unit role max_datagram_size max_ack_delay initial_rtt initial_window = checked (record {
  role = role;
  unit = unit;
  max_datagram_size = max_datagram_size;
  max_ack_delay = unwrap_or max_ack_delay (in_unit unit default_max_ack_delay);
  initial_rtt = unwrap_or initial_rtt (in_unit unit default_initial_rtt);
  initial_window = unwrap_or initial_window (default_window max_datagram_size);
  version = version_in unit;
  options = no_options;
})

-- these values in version 1
abbrev pub settings_of : Role → ℕ → Option ℕ → Option ℕ → Option ℕ → Result Settings RangeFault
settings_of = settings_in Microseconds

-- the version of a header that gets these options: at least 2, and 3 where version 2 cannot say
-- them
abbrev pub version_with : Version → Options → Version
version_with One o = if fit_version_two o then Two else Three
version_with Two o = if fit_version_two o then Two else Three
version_with Three o = Three

-- whether each option is out of its range, in the order in which faults are looked for
abbrev pub options_outside : Options → List (Bool × Key)
options_outside o =
    (is_outside 0 max_timer_late (unwrap_or o.timer_late 0), key.TimerLateUs)
    ∷ (is_outside 0 max_report_slack_us o.report_slack_us, key.ReportSlackUs)
    ∷ (is_outside 0 max_report_slack_bytes o.report_slack_bytes, key.ReportSlackBytes)
    ∷ (is_outside min_packet_threshold max_packet_threshold o.packet_threshold, key.PacketThreshold)
    ∷ (is_outside 0 max_timer_early_us o.timer_early_us, key.TimerEarlyUs)
    ∷ (spares_unreported o, key.LossByNumber)
    ∷ (
      is_outside min_time_threshold_eighths max_time_threshold_eighths o.time_threshold_eighths,
      key.TimeThresholdEighths,
    )
    ∷ []

-- a header's values in this version with these options, or the key of the first option that is out
-- of its range
abbrev pub in_version : Version → Settings → Options → Result Settings RangeFault
in_version version s options =
    unless_outside (options_outside options)
    (record s { version = version; options = options })

-- a header's values with these options: in version 2, or in version 3 where the header is of it or
-- version 2 cannot say them
abbrev pub with_options : Settings → Options → Result Settings RangeFault
with_options s options = in_version (version_with s.version options) s options

-- the same in version 3
abbrev pub choosing_options : Settings → Options → Result Settings RangeFault
choosing_options = in_version Three

-- What the header of a trace asks of the sender and of its reports, and in which version and unit
-- it is: what the user says, else what the log says, else what stands in the table of the dialect.
use Rattle.std.specs.Prelude.{◌≡◌, ◌+◌, ◌-◌, ◌*◌, ◌/◌, ◌&&◌, ◌||◌, ◌≤◌, ℕ, Bool, false, max, min}
use Rattle.std.specs.Prelude.{true, Option, None, Some, if◌then◌else◌, nat_lt, unwrap_or}
use Rattle.std.specs.Option.{ForSome}
use Rattle.qa_base.specs.declared.header.Options.{Options}
use Rattle.qa_base.specs.declared.header.Version.{Version}
use Rattle.qa_base.specs.declared.header.Version.TheVariants as version
use Rattle.qa_base.specs.declared.space.Controller.{Controller}
use Rattle.qa_base.specs.declared.space.Controller.TheVariants.{NewReno, Reported}
use Rattle.qa_base.specs.declared.space.LossByNumber.{LossByNumber}
use Rattle.qa_base.specs.declared.space.LossByNumber.TheVariants.{Must, May}
use Rattle.qa_base.specs.declared.space.ThresholdCounts.{ThresholdCounts}
use Rattle.qa_base.specs.declared.space.ThresholdCounts.TheVariants.{Numbers, Packets}
use Rattle.qa_base.specs.declared.space.TimeUnit.{TimeUnit}
use Rattle.qa_base.specs.declared.space.TimeUnit.TheVariants.{Microseconds, Nanoseconds}
use Rattle.qa_base.specs.values.Limits.{in_range, max_packet_threshold, max_time_threshold_eighths}
use Rattle.qa_base.specs.values.Limits.{min_packet_threshold, min_time_threshold_eighths}
use Rattle.qa_base.specs.values.Settings.{fit_version_two, is_reported, no_options}
use Rattle.qa_convert.specs.Sources.{Sources}
use Rattle.qa_convert.specs.declared.dialects.Dialect.{Dialect}
use Rattle.qa_convert.specs.declared.header.Choices.{Choices}
use Rattle.qa_convert.specs.declared.header.Format.{Format}
use Rattle.qa_convert.specs.declared.header.Format.TheVariants.{One, Two, Three}

-- a user says the format alone
abbrev pub only_format : Format → Choices
only_format format = record {
  format = format;
  timer_late = None;
  refresh_min_rtt = None;
  report_slack_us = None;
  report_slack_bytes = None;
  unit = None;
  controller = None;
  window_overshoot = None;
  sample_eliciting_only = None;
  packet_threshold = None;
  timer_early_us = None;
  loss_by_number = None;
  threshold_counts = None;
  reset_rtt = None;
  latest_rtt_less_delay = None;
  time_threshold_eighths = None;
  recovery_by_order = None;
}

-- what a log says, if a header can say it
abbrev pub said_in : ℕ → ℕ → Option ℕ → Option ℕ
said_in lo hi None = None
said_in lo hi (Some n) = in_range lo hi n

-- ---- the version and the unit

abbrev pub version_of : Format → Version
version_of One = version.One
version_of Two = version.Two
version_of Three = version.Three

-- nanoseconds once a time of the log has them
abbrev pub unit_by_log : Sources → TimeUnit
unit_by_log log = if log.has_nanoseconds then Nanoseconds else Microseconds

-- only version 3 has another unit than microseconds
abbrev pub unit_in : Format → Choices → Dialect → Sources → TimeUnit
unit_in Three c d log = unwrap_or c.unit (unwrap_or d.unit (unit_by_log log))
unit_in _ c d log = Microseconds

abbrev pub unit_of : Choices → Dialect → Sources → TimeUnit
unit_of c d log = unit_in c.format c d log

-- version 1 asks nothing
abbrev pub options_in : Format → Options → Options
options_in One o = no_options
options_in _ o = o

-- ---- what versions 2 and 3 ask

-- how late a timer may be: as the user says; else as late as in the table at least, or it is not
-- judged
abbrev pub IsLate : Option (Option ℕ) → ℕ → Option ℕ → Type 0
IsLate (Some asked) table late = late ≡ asked
IsLate None table late = ForSome late (λ us. table ≤ us)

pub record IsAllowed (c : Choices) (d : Dialect) (o : Options) : Type 0 where
  pub late : IsLate c.timer_late d.timer_late_us o.timer_late
  pub refresh : o.refresh_min_rtt ≡ unwrap_or c.refresh_min_rtt false
  pub slack_us : o.report_slack_us ≡ unwrap_or c.report_slack_us d.slack_us
  pub slack_bytes : o.report_slack_bytes ≡ unwrap_or c.report_slack_bytes d.slack_bytes

-- ---- what version 3 asks

-- packets are judged by the reported window if a report has one, or if the stack hides its own: by
-- which controller a sender has its window is its own choice (RFC 9002, section 7)
abbrev pub controller_by : Dialect → Sources → Controller
controller_by d log = if log.has_window || d.hides_window then Reported else NewReno

-- a packet is spared only under a reported window
abbrev pub loss_by : Dialect → Controller → LossByNumber
loss_by d c = if d.may_spare && is_reported c then May else Must

abbrev pub counts_by : Dialect → ThresholdCounts
counts_by d = if d.counts_packets then Packets else Numbers

-- the packet threshold of the parameters of recovery (RFC 9002, section 6.1.1)
abbrev pub threshold_by : Dialect → Sources → ℕ
threshold_by d log =
    unwrap_or (said_in min_packet_threshold max_packet_threshold log.recovery.packet_threshold)
    d.packet_threshold

-- a time threshold in millionths of the RTT, in eighths
abbrev pub eighths_in : ℕ → ℕ
eighths_in millionths = (8 * millionths + 500000) / 1000000

-- so many eighths are another threshold, though a log may round it to hundredths
abbrev pub is_other : ℕ → ℕ → Bool
is_other millionths eighths = nat_lt 80000
    (max (8 * millionths) (1000000 * eighths) - min (8 * millionths) (1000000 * eighths))

abbrev pub eighths_said : Option ℕ → Option ℕ
eighths_said None = None
eighths_said (Some n) = if is_other n (eighths_in n) then None else
    in_range min_time_threshold_eighths max_time_threshold_eighths (eighths_in n)

-- the time threshold of the parameters of recovery (RFC 9002, section 6.1.2)
abbrev pub eighths_by : Dialect → Sources → ℕ
eighths_by d log = unwrap_or (eighths_said log.recovery.time_threshold) d.time_threshold_eighths

pub record IsChosen (c : Choices) (d : Dialect) (log : Sources) (o : Options) : Type 0 where
  pub controller : o.controller ≡ unwrap_or c.controller (controller_by d log)
  pub overshoot : o.window_overshoot ≡ unwrap_or c.window_overshoot d.window_overshoot
  pub eliciting : o.sample_eliciting_only
      ≡ unwrap_or c.sample_eliciting_only d.sample_eliciting_only
  pub threshold : o.packet_threshold ≡ unwrap_or c.packet_threshold (threshold_by d log)
  pub early : o.timer_early_us ≡ unwrap_or c.timer_early_us d.timer_early_us
  pub loss : o.loss_by_number ≡ unwrap_or c.loss_by_number (loss_by d o.controller)
  pub counts : o.threshold_counts ≡ unwrap_or c.threshold_counts (counts_by d)
  pub reset : ForSome c.reset_rtt (λ is. o.reset_rtt ≡ is)
  pub less_delay : o.latest_rtt_less_delay
      ≡ unwrap_or c.latest_rtt_less_delay d.latest_rtt_less_delay
  pub eighths : o.time_threshold_eighths ≡ unwrap_or c.time_threshold_eighths (eighths_by d log)
  pub by_order : o.recovery_by_order
      ≡ unwrap_or c.recovery_by_order (d.recovery_by_order || log.has_milliseconds)

-- version 1 asks nothing, version 2 its own four options alone
abbrev pub Asks : Format → Choices → Dialect → Sources → Options → Type 0
Asks One c d log o = o ≡ no_options
Asks Two c d log o = IsAllowed c d o × (fit_version_two o ≡ true)
Asks Three c d log o = IsAllowed c d o × IsChosen c d log o

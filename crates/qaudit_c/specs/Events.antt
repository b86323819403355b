-- What the events and the header of C say.
use Rattle.std.specs.Prelude.{ℕ, ◌<◌, ◌≤◌, ◌^◌, ◌&&◌, Bool, true, nat_le, length, List, [], ◌∷◌}
use Rattle.std.specs.Prelude.{Option, Some, None, Result, Ok}
use Rattle.std.specs.Prelude.{Err, option_map, if◌then◌else◌}
use Rattle.std.specs.List.{AllByRecursion}
use Rattle.std.specs.Option.{option_and_then}
use Rattle.qa_base.specs.declared.event.Event.{Event}
use Rattle.qa_base.specs.declared.event.Event.TheVariants as events
use Rattle.qa_base.specs.declared.event.MetricValues.{MetricValues}
use Rattle.qa_base.specs.declared.header.Options.{Options}
use Rattle.qa_base.specs.declared.space.Controller.{Controller}
use Rattle.qa_base.specs.declared.space.LossByNumber.{LossByNumber}
use Rattle.qa_base.specs.declared.space.ThresholdCounts.{ThresholdCounts}
use Rattle.qa_base.specs.declared.space.Permission.{Permission}
use Rattle.qa_base.specs.declared.space.Role.{Role}
use Rattle.qa_base.specs.declared.space.Space.{Space}
use Rattle.qa_base.specs.declared.space.TimeUnit.{TimeUnit}
use Rattle.qa_base.specs.values.Constants.{default_packet_threshold}
use Rattle.qa_base.specs.values.Constants.{default_time_threshold_eighths}
use Rattle.qa_base.specs.values.Events.{fits}
use Rattle.qa_base.specs.values.Limits.{in_range, max_time, max_packet_number}
use Rattle.qa_base.specs.values.Settings.{Settings, settings_in, choosing_options}
use Rattle.qa_format.specs.declared.line.Line.{Line}
use Rattle.qa_format.specs.declared.line.Line.TheVariants as lines
use Rattle.qa_format.specs.format.Proper.{IsRange}
use Rattle.qa_format.specs.format.Written.{has_line, left_out}
use Rattle.qaudit_c.specs.declared.structs.SentPacket.{SentPacket}
use Rattle.qaudit_c.specs.declared.structs.PacketRange.{PacketRange}
use Rattle.qaudit_c.specs.declared.structs.Acknowledgment.{Acknowledgment}
use Rattle.qaudit_c.specs.declared.structs.FiredTimer.{FiredTimer}
use Rattle.qaudit_c.specs.declared.structs.Metrics.{Metrics}
use Rattle.qaudit_c.specs.declared.structs.TraceHeader.{TraceHeader}
use Rattle.qaudit_c.specs.Numbers.{space_numbered, permission_numbered, timer_numbered}
use Rattle.qaudit_c.specs.Numbers.{role_numbered, unit_numbered, controller_numbered}
use Rattle.qaudit_c.specs.Numbers.{loss_by_number_numbered, threshold_counts_numbered}

-- the event, where it fits
abbrev pub fitting : Event → Option Event
fitting e = if fits e then Some e else None

-- the event, where a line can say it: one with very many ranges may be too long for any
abbrev pub on_a_line : Event → Option Event
on_a_line e = if fits e && has_line e then Some e else None

-- how many ranges a line names
abbrev pub range_count : Line → ℕ
range_count (lines.Event (events.Ack ack)) = length ack.ranges
range_count (lines.Event (events.Lost time space ranges)) = length ranges
range_count _ = 0

-- a line says this
abbrev pub is_said : Line → Bool
is_said (lines.Event e) = has_line e
is_said _ = true

-- how much shorter it is than what is written of it
abbrev pub left_out_of : Line → ℕ
left_out_of (lines.Event e) = left_out e
left_out_of _ = 0

-- the numbers of an event with ranges are in theirs
abbrev pub HasProperRanges : Event → Type 0
HasProperRanges (events.Ack ack) =
    (ack.time ≤ max_time) × AllByRecursion IsRange ack.ranges × (ack.delay < 2 ^ 64)
HasProperRanges (events.Lost time space ranges) =
    (time ≤ max_time) × AllByRecursion IsRange ranges
HasProperRanges _ = Unit {0}

abbrev pub SaysProperRanges : Line → Type 0
SaysProperRanges (lines.Event e) = HasProperRanges e
SaysProperRanges _ = Unit {0}

abbrev pub time_of : ℕ → Option ℕ
time_of time = in_range 0 max_time time

abbrev pub number_of : ℕ → Option ℕ
number_of number = in_range 0 max_packet_number number

-- ---- ranges

-- the range, where it is one
abbrev pub range_said : PacketRange → Option (ℕ × ℕ)
range_said r =
    if nat_le r.least r.greatest
    && nat_le r.greatest max_packet_number then Some (r.least, r.greatest) else None

-- one more in front, where both are there
abbrev pub cons_of : Option (ℕ × ℕ) → Option (List (ℕ × ℕ)) → Option (List (ℕ × ℕ))
cons_of None ranges = None
cons_of (Some range) None = None
cons_of (Some range) (Some ranges) = Some (range ∷ ranges)

-- the ranges in their order, where each is one
abbrev pub ranges_of : List PacketRange → Option (List (ℕ × ℕ))
ranges_of [] = Some []
ranges_of (r ∷ rs) = cons_of (range_said r) (ranges_of rs)

-- ---- events; None where a value is outside its range

-- a packet with these values, where the struct says the others as they are
abbrev pub sent_event : ℕ → Space → ℕ → Permission → SentPacket → Event
sent_event time space number permission p = events.Sent (record {
  time = time;
  space = space;
  number = number;
  size = p.size;
  eliciting = p.eliciting;
  in_flight = p.in_flight;
  permission = permission;
})

abbrev pub sent_said : SentPacket → Option Event
sent_said p =
    option_and_then (λ time.
    option_and_then (λ space.
    option_and_then (λ number.
    option_and_then (λ permission.
    fitting (sent_event time space number permission p))
    (permission_numbered p.permission)) (number_of p.number)) (space_numbered p.space))
    (time_of p.time)

abbrev pub ack_said : Acknowledgment → List PacketRange → Option Event
ack_said a rs =
    option_and_then (λ time.
    option_and_then (λ space.
    option_and_then (λ ranges.
    on_a_line (events.Ack (record {
      time = time;
      space = space;
      ranges = ranges;
      delay = a.delay;
      app_limited = a.app_limited;
    })))
    (ranges_of rs)) (space_numbered a.space)) (time_of a.time)

abbrev pub lost_said : ℕ → ℕ → List PacketRange → Option Event
lost_said t s rs =
    option_and_then (λ time.
    option_and_then
    (λ space.
    option_and_then (λ ranges. on_a_line (events.Lost time space ranges)) (ranges_of rs))
    (space_numbered s)) (time_of t)

abbrev pub timer_said : FiredTimer → Option Event
timer_said t =
    option_and_then (λ time.
    option_and_then
    (λ kind.
    option_and_then (λ space. fitting (events.Timer time kind space)) (space_numbered t.space))
    (timer_numbered t.kind)) (time_of t.time)

abbrev pub discard_said : ℕ → ℕ → Option Event
discard_said t s =
    option_and_then (λ time.
    option_and_then (λ space. fitting (events.Discard time space)) (space_numbered s)) (time_of t)

abbrev pub confirmed_said : ℕ → Option Event
confirmed_said t = option_and_then (λ time. fitting (events.Confirmed time)) (time_of t)

abbrev pub keys_said : ℕ → Option Event
keys_said t = option_and_then (λ time. fitting (events.Keys time)) (time_of t)

-- the value, where it is there
abbrev pub given : Bool → ℕ → Option ℕ
given has n = if has then Some n else None

abbrev pub values_of : Metrics → MetricValues
values_of m = record {
  window = given m.has_window m.window;
  ssthresh = given m.has_ssthresh m.ssthresh;
  bytes_in_flight = given m.has_bytes_in_flight m.bytes_in_flight;
  latest_rtt = given m.has_latest_rtt m.latest_rtt;
  min_rtt = given m.has_min_rtt m.min_rtt;
  smoothed_rtt = given m.has_smoothed_rtt m.smoothed_rtt;
  rttvar = given m.has_rttvar m.rttvar;
}

abbrev pub metrics_said : Metrics → Option Event
metrics_said m =
    option_and_then (λ time. fitting (events.Metrics time (values_of m))) (time_of m.time)

-- ---- the header, of version 3

abbrev pub ok_of : {A E : Type 0} → Result A E → Option A
ok_of (Ok x) = Some x
ok_of (Err e) = None

abbrev pub options_of : TraceHeader → Controller → LossByNumber → ThresholdCounts → Options
options_of h controller loss counts = record {
  timer_late = given h.has_timer_late_us h.timer_late_us;
  refresh_min_rtt = h.refresh_min_rtt;
  report_slack_us = h.report_slack_us;
  report_slack_bytes = h.report_slack_bytes;
  controller = controller;
  window_overshoot = h.window_overshoot;
  sample_eliciting_only = h.sample_eliciting_only;
  packet_threshold =
      if h.has_packet_threshold then h.packet_threshold else default_packet_threshold;
  timer_early_us = h.timer_early_us;
  loss_by_number = loss;
  threshold_counts = counts;
  reset_rtt = h.reset_rtt;
  latest_rtt_less_delay = h.latest_rtt_less_delay;
  time_threshold_eighths =
      if h.has_time_threshold_eighths then h.time_threshold_eighths
      else default_time_threshold_eighths;
  recovery_by_order = h.recovery_by_order;
}

abbrev pub plain_said : TraceHeader → Role → TimeUnit → Option Settings
plain_said h role unit =
    ok_of (settings_in unit role h.max_datagram_size (given h.has_max_ack_delay h.max_ack_delay)
    (given h.has_initial_rtt h.initial_rtt)
    (given h.has_initial_window h.initial_window))

abbrev pub header_said : TraceHeader → Option Settings
header_said h =
    option_and_then (λ role.
    option_and_then (λ unit.
    option_and_then (λ controller.
    option_and_then (λ loss.
    option_and_then (λ counts.
    option_and_then (λ plain. ok_of (choosing_options plain (options_of h controller loss counts)))
    (plain_said h role unit)) (threshold_counts_numbered h.threshold_counts))
    (loss_by_number_numbered h.loss_by_number))
    (controller_numbered h.window)) (unit_numbered h.unit)) (role_numbered h.role)

-- ---- lines

abbrev pub line_of_event : Option Event → Option Line
line_of_event e = option_map (λ (x : Event). lines.Event x) e

abbrev pub line_of_header : Option Settings → Option Line
line_of_header s = option_map (λ (x : Settings). lines.Header x) s

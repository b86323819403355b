-- Short forms of settings and events, for histories that are written out.
use Rattle.std.specs.Prelude.{ℕ, ◌*◌, List, Bool, true, false, Option}
use Rattle.qa_base.specs.declared.event.Event.{Event}
use Rattle.qa_base.specs.declared.event.Event.TheVariants.{Sent, Ack, Lost, Timer, Metrics}
use Rattle.qa_base.specs.declared.space.TimerKind.TheVariants as kind
use Rattle.qa_base.specs.declared.space.Controller.TheVariants.{Reported}
use Rattle.qa_base.specs.declared.space.Permission.{Permission}
use Rattle.qa_base.specs.declared.space.Permission.TheVariants.{Window, Probe, Recovery}
use Rattle.qa_base.specs.declared.space.LossByNumber.TheVariants.{May}
use Rattle.qa_base.specs.declared.space.Role.TheVariants as role
use Rattle.qa_base.specs.declared.space.Space.{Space}
use Rattle.qa_base.specs.declared.header.Options.{Options}
use Rattle.qa_base.specs.declared.header.Version.TheVariants.{One, Two, Three}
use Rattle.qa_base.specs.declared.space.TimeUnit.TheVariants.{Microseconds, Nanoseconds}
use Rattle.qa_base.specs.values.Settings.{Settings, no_options}

-- a client or a server with this datagram size and initial window, and the other defaults
abbrev pub client : ℕ → ℕ → Settings
client datagram window = record { role = role.Client; unit = Microseconds; max_datagram_size = datagram; max_ack_delay = 25000; initial_rtt = 333000; initial_window = window; version = One; options = no_options }

abbrev pub server : ℕ → ℕ → Settings
server datagram window = record { role = role.Server; unit = Microseconds; max_datagram_size = datagram; max_ack_delay = 25000; initial_rtt = 333000; initial_window = window; version = One; options = no_options }

-- the same in version 2, with a limit for timers, a refresh of min_rtt and the slacks of reported times and bytes
abbrev pub second_version : Settings → Option ℕ → Bool → ℕ → ℕ → Settings
second_version s timer_late refresh_min_rtt report_slack_us report_slack_bytes = record {
  role = s.role;
  unit = s.unit;
  max_datagram_size = s.max_datagram_size;
  max_ack_delay = s.max_ack_delay;
  initial_rtt = s.initial_rtt;
  initial_window = s.initial_window;
  version = Two;
  options = record no_options { timer_late = timer_late; refresh_min_rtt = refresh_min_rtt; report_slack_us = report_slack_us; report_slack_bytes = report_slack_bytes };
}

-- the same in version 3, with these options
abbrev pub choosing : Settings → Options → Settings
choosing s options = record s { version = Three; options = options }

-- in version 3, by the window that the sender reports, with this slack of bytes
abbrev pub reporting : Settings → ℕ → Settings
reporting s report_slack_bytes = choosing s (record no_options { controller = Reported; report_slack_bytes = report_slack_bytes })

-- in version 3, by the window that the sender reports, which may spare packets that lie the packet threshold behind
abbrev pub sparing : Settings → Settings
sparing s = choosing s (record no_options { controller = Reported; loss_by_number = May })

-- in version 3, with each time in nanoseconds
abbrev pub in_nanoseconds : Settings → Settings
in_nanoseconds s = record s { unit = Nanoseconds; max_ack_delay = 1000 * s.max_ack_delay; initial_rtt = 1000 * s.initial_rtt; version = Three }

-- ---- packets of a space and a number, sent at a time, with a size

-- ack-eliciting or not, in flight or not, by this leave
abbrev pub packet_sent : Bool → Bool → Permission → Space → ℕ → ℕ → ℕ → Event
packet_sent eliciting in_flight permission space number time size = Sent (record {
  time = time;
  space = space;
  number = number;
  size = size;
  eliciting = eliciting;
  in_flight = in_flight;
  permission = permission;
})

abbrev pub sent : Space → ℕ → ℕ → ℕ → Event
sent = packet_sent true true Window

-- in flight, but not ack-eliciting
abbrev pub padded : Space → ℕ → ℕ → ℕ → Event
padded = packet_sent false true Window

-- so is this, and marked as a probe
abbrev pub padded_probe : Space → ℕ → ℕ → ℕ → Event
padded_probe = packet_sent false true Probe

-- not in flight
abbrev pub bare : Space → ℕ → ℕ → ℕ → Event
bare = packet_sent false false Window

abbrev pub probe : Space → ℕ → ℕ → ℕ → Event
probe = packet_sent true true Probe

abbrev pub bare_probe : Space → ℕ → ℕ → ℕ → Event
bare_probe = packet_sent false false Probe

abbrev pub recovery : Space → ℕ → ℕ → ℕ → Event
recovery = packet_sent true true Recovery

-- ---- acknowledgments and losses of a space, with ranges, at a time

abbrev acknowledged : ℕ → Bool → Space → List (ℕ × ℕ) → ℕ → Event
acknowledged delay app_limited space ranges time = Ack (record { time = time; space = space; ranges = ranges; delay = delay; app_limited = app_limited })

abbrev pub ack : Space → List (ℕ × ℕ) → ℕ → Event
ack = acknowledged 0 false

abbrev pub delayed_ack : Space → List (ℕ × ℕ) → ℕ → ℕ → Event
delayed_ack space ranges time delay = acknowledged delay false space ranges time

abbrev pub limited_ack : Space → List (ℕ × ℕ) → ℕ → Event
limited_ack = acknowledged 0 true

abbrev pub lost : Space → List (ℕ × ℕ) → ℕ → Event
lost space ranges time = Lost time space ranges

-- ---- timers of a space, at a time

abbrev pub loss_fires : Space → ℕ → Event
loss_fires space time = Timer time kind.Loss space

abbrev pub pto_fires : Space → ℕ → Event
pto_fires space time = Timer time kind.Pto space

-- ---- reports

abbrev pub metrics : ℕ → Option ℕ → Option ℕ → Option ℕ → Option ℕ → Option ℕ → Option ℕ → Option ℕ → Event
metrics time window ssthresh bytes_in_flight latest_rtt min_rtt smoothed_rtt rttvar = Metrics time (record {
  window = window;
  ssthresh = ssthresh;
  bytes_in_flight = bytes_in_flight;
  latest_rtt = latest_rtt;
  min_rtt = min_rtt;
  smoothed_rtt = smoothed_rtt;
  rttvar = rttvar;
})

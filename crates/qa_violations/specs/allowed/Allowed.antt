-- What the header allows an event that breaks no rule: by how much the event goes past what each of
-- five rules asks.
--
-- `c` are the settings of the header, `h` is the history.
use Rattle.std.specs.Prelude.{ℕ, ◌+◌, ◌-◌, nat_lt, max, not, Bool, true, List, [], ◌∷◌, ◌++◌}
use Rattle.std.specs.Prelude.{Option, Some, None, unwrap_or, if◌then◌else◌}
use Rattle.qa_base.specs.declared.event.Event.{Event}
use Rattle.qa_base.specs.declared.event.Event.TheVariants.{Sent, Timer, Metrics}
use Rattle.qa_base.specs.declared.event.MetricValues.{MetricValues}
use Rattle.qa_base.specs.declared.event.SentPacket.{SentPacket}
use Rattle.qa_base.specs.declared.rule.Field.{Field}
use Rattle.qa_base.specs.declared.rule.Field.TheVariants as field
use Rattle.qa_base.specs.declared.rule.Rule.{Rule}
use Rattle.qa_base.specs.declared.rule.Rule.TheVariants as rule
use Rattle.qa_base.specs.declared.space.Permission.TheVariants.{Window}
use Rattle.qa_base.specs.declared.totals.Totals.{Totals}
use Rattle.qa_base.specs.machine.State.{totals}
use Rattle.qa_base.specs.machine.Timer.{Due, deadline, is_same_due, packet_deadline, set_since}
use Rattle.qa_base.specs.machine.Window.{acknowledged_since_collapse, unless_same, window_in}
use Rattle.qa_base.specs.values.Constants.{minimum_window}
use Rattle.qa_base.specs.values.Events.{is_in_flight_by, time_of}
use Rattle.qa_base.specs.values.Settings.{Settings, is_reported}
use Rattle.qa_explain.specs.text.Deadlines.{due_time}
use Rattle.qa_explain.specs.text.Values.{held_of, reported_of}
use Rattle.qa_violations.specs.declared.allowed.before.Before.{Before}
use Rattle.qa_violations.specs.table.Amounts.{gap, past_collapse}

-- what the machine holds before an event, as far as these rules ask
abbrev pub before : Settings → List Event → Before
before c h = record {
  totals = totals c h;
  due = deadline c h;
  packet_due = packet_deadline c h;
  since = set_since c h;
  acknowledged = acknowledged_since_collapse c h;
}

-- what is held after an event, by what was held before it and what the machine holds then
abbrev pub followed : Before → Event → Totals → Option Due → Option Due → Option ℕ → Before
followed b e totals due packet_due acknowledged = record {
  totals = totals;
  due = due;
  packet_due = packet_due;
  since = if is_same_due b.due due then b.since else time_of e;
  acknowledged = acknowledged;
}

-- ---- V7

-- by how many bytes a packet takes the bytes in flight past the congestion window, which its mark
-- asks for (RFC 9002, section 7)
abbrev pub packet_past_window : Before → SentPacket → ℕ
packet_past_window b packet =
    if is_in_flight_by Window packet
    then b.totals.bytes_in_flight + packet.size - b.totals.window else 0

abbrev pub past_window : Before → Event → ℕ
past_window b (Sent packet) = packet_past_window b packet
past_window b _ = 0

-- ---- V13

-- how long before its deadline a timer fires (section 6.2)
abbrev pub early_by : Before → Event → ℕ
early_by b (Timer time kind space) = due_time b.due - time
early_by b _ = 0

-- ---- V16

-- the window and ssthresh are compared where they are NewReno's
abbrev pub is_compared : Settings → Field → Bool
is_compared c field.Window = not (is_reported c.options.controller)
is_compared c field.Ssthresh = not (is_reported c.options.controller)
is_compared c _ = true

-- how far a reported value is from the machine's, where it is compared
abbrev pub metric_off : Settings → MetricValues → Totals → Field → ℕ
metric_off c values held f =
    if is_compared c f then unwrap_or (gap (reported_of f values) (held_of f held)) 0 else 0

-- ---- V18

-- how long past a deadline a time is, counted from the time since which it is set where that is
-- later
abbrev pub past_due : Option Due → ℕ → ℕ → ℕ
past_due None since time = 0
past_due (Some due) since time = time - max due.time since

-- how long before the event a timer that is set for packets should have fired (section 6.2)
abbrev pub late_by : Before → Event → ℕ
late_by b e = past_due b.packet_due b.since (time_of e)

-- ---- V19

-- by how many bytes another window that is reported is above two datagrams and what was
-- acknowledged since persistent congestion (section 7.6.2)
abbrev pub past_collapse_by : Settings → Before → Event → ℕ
past_collapse_by c b e =
    if is_reported c.options.controller
    then unwrap_or (past_collapse (minimum_window c.max_datagram_size) b.acknowledged
    (unless_same b.totals.window (window_in e))) 0
    else 0

-- ---- the five

-- the rule with the amount, where there is one
abbrev pub beyond : Rule → ℕ → List (Rule × ℕ)
beyond r amount = if nat_lt 0 amount then (r, amount) ∷ [] else []

-- the values of a report, in the order of the format
abbrev pub fields : List Field
fields =
    field.Window
    ∷ field.Ssthresh
    ∷ field.BytesInFlight
    ∷ field.LatestRtt
    ∷ field.MinRtt
    ∷ field.SmoothedRtt
    ∷ field.Rttvar
    ∷ []

abbrev pub metrics_beyond : Settings → MetricValues → Totals → List Field → List (Rule × ℕ)
metrics_beyond c values held [] = []
metrics_beyond c values held (f ∷ fs) =
    beyond (rule.Metric f) (metric_off c values held f) ++ metrics_beyond c values held fs

abbrev pub report_beyond : Settings → Before → Event → List (Rule × ℕ)
report_beyond c b (Metrics time values) = metrics_beyond c values b.totals fields
report_beyond c b _ = []

-- the rules past which an event goes, with the amounts, in the order of the rules
abbrev pub allowed_by : Settings → Before → Event → List (Rule × ℕ)
allowed_by c b e =
    beyond rule.PastWindow (past_window b e)
    ++ beyond rule.TimerEarly (early_by b e)
    ++ report_beyond c b e
    ++ beyond rule.TimerLate (late_by b e)
    ++ beyond rule.CollapseMissing (past_collapse_by c b e)

-- what the header allows an event that breaks no rule after the history
abbrev pub allowed : Settings → List Event → Event → List (Rule × ℕ)
allowed c h e = allowed_by c (before c h) e

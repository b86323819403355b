-- The text that is written for a line.
use Rattle.std.specs.Prelude.{ℕ, ◌+◌, ◌==◌, nat_le, List, [], ◌∷◌, ◌++◌, length, Bool, true, false}
use Rattle.std.specs.Prelude.{Option, Some, None, if◌then◌else◌}
use Rattle.serde_json.specs.Data as json
use Rattle.serde_json.specs.Data.{Data, Items, no_items, item, Members, no_members, member}
use Rattle.serde_json.specs.Written.{compact_text}
use Rattle.qa_base.specs.declared.event.Ack.{Ack}
use Rattle.qa_base.specs.declared.event.Event.{Event}
use Rattle.qa_base.specs.declared.event.Event.TheVariants as events
use Rattle.qa_base.specs.declared.event.Event.TheVariants.{Sent, Lost, Timer, Discard}
use Rattle.qa_base.specs.declared.event.Event.TheVariants.{Confirmed, Keys, Metrics}
use Rattle.qa_base.specs.declared.key.Key.{Key}
use Rattle.qa_base.specs.declared.key.Key.TheVariants as key
use Rattle.qa_base.specs.declared.header.Options.{Options}
use Rattle.qa_base.specs.declared.header.Version.{Version}
use Rattle.qa_base.specs.declared.header.Version.TheVariants.{One, Two, Three}
use Rattle.qa_format.specs.declared.line.Line.{Line}
use Rattle.qa_format.specs.declared.line.Line.TheVariants as line
use Rattle.qa_format.specs.format.Lines.{line_limit}
use Rattle.qa_base.specs.declared.line_kind.LineKind.TheVariants as kinds
use Rattle.qa_base.specs.declared.rule.Field.{Field}
use Rattle.qa_base.specs.declared.rule.Field.TheVariants.{Window, Ssthresh, BytesInFlight}
use Rattle.qa_base.specs.declared.rule.Field.TheVariants.{LatestRtt, MinRtt, SmoothedRtt, Rttvar}
use Rattle.qa_base.specs.values.Events.{fits}
use Rattle.qa_base.specs.values.Names.{key_name, line_kind_name, version_number, role_name}
use Rattle.qa_base.specs.values.Names.{unit_name, controller_name, loss_by_number_name, space_name}
use Rattle.qa_base.specs.values.Names.{threshold_counts_name}
use Rattle.qa_base.specs.values.Names.{permission_name, kind_name}
use Rattle.qa_base.specs.values.Settings.{Settings}

-- ---- values

abbrev pub integer : ℕ → Data
integer n = json.number (json.unsigned n)

abbrev pub string : List ℕ → Data
string t = json.string t

abbrev pub boolean : Bool → Data
boolean b = json.boolean b

-- the list of two integers
abbrev pub integer_pair : ℕ × ℕ → Data
integer_pair range = json.array (item (integer range.0) (item (integer range.1) no_items))

abbrev pub integer_pairs : List (ℕ × ℕ) → Items
integer_pairs [] = no_items
integer_pairs (range ∷ ranges) = item (integer_pair range) (integer_pairs ranges)

-- ---- what a line has, its keys in ascending order of their bytes

-- keys with their values
abbrev pub Pairs : Type 0
Pairs = List (Key × Data)

-- the limit of a timer, where there is one
abbrev pub limit_pairs : Option ℕ → Pairs
limit_pairs None = []
limit_pairs (Some limit) = (key.TimerLateUs, integer limit) ∷ []

-- the keys of version 2 that version 1 has not, up to the role
abbrev pub pairs_since_two : Options → Pairs
pairs_since_two options =
    (key.RefreshMinRtt, boolean options.refresh_min_rtt)
    ∷ (key.ReportSlackBytes, integer options.report_slack_bytes)
    ∷ (key.ReportSlackUs, integer options.report_slack_us)
    ∷ []

abbrev pub option_pairs : Version → Options → Pairs
option_pairs One options = []
option_pairs Two options = pairs_since_two options
option_pairs Three options = pairs_since_two options

-- the keys that version 3 alone has
abbrev pub in_three : Version → Pairs → Pairs
in_three One pairs = []
in_three Two pairs = []
in_three Three pairs = pairs

abbrev pub header_pairs : Settings → Pairs
header_pairs s =
    (key.Event, string (line_kind_name kinds.Header))
    ∷ (key.InitialRtt, integer s.initial_rtt)
    ∷ (key.InitialWindow, integer s.initial_window)
    ∷ in_three s.version ((key.LatestRttLessDelay, boolean s.options.latest_rtt_less_delay)
    ∷ (key.LossByNumber, string (loss_by_number_name s.options.loss_by_number)) ∷ [])
    ++ (key.MaxAckDelay, integer s.max_ack_delay)
    ∷ (key.MaxDatagramSize, integer s.max_datagram_size)
    ∷ in_three s.version ((key.PacketThreshold, integer s.options.packet_threshold)
    ∷ (key.RecoveryByOrder, boolean s.options.recovery_by_order) ∷ [])
    ++ option_pairs s.version s.options
    ++ in_three s.version ((key.ResetRtt, boolean s.options.reset_rtt) ∷ [])
    ++ (key.Role, string (role_name s.role))
    ∷ in_three s.version ((key.SampleElicitingOnly, boolean s.options.sample_eliciting_only)
    ∷ (key.ThresholdCounts, string (threshold_counts_name s.options.threshold_counts))
    ∷ (key.TimeThresholdEighths, integer s.options.time_threshold_eighths)
    ∷ (key.TimerEarlyUs, integer s.options.timer_early_us) ∷ [])
    ++ limit_pairs s.options.timer_late
    ++ in_three s.version ((key.Unit, string (unit_name s.unit)) ∷ [])
    ++ (key.Version, integer (version_number s.version))
    ∷ in_three s.version ((key.Window, string (controller_name s.options.controller))
    ∷ (key.WindowOvershoot, boolean s.options.window_overshoot) ∷ [])

-- a value that is reported; one that is not is left out
abbrev pub reported : Field → Option ℕ → Pairs
reported f None = []
reported f (Some n) = (key.Metric f, integer n) ∷ []

abbrev pub event_pairs : Event → Pairs
event_pairs (Sent packet) =
    (key.Eliciting, boolean packet.eliciting)
    ∷ (key.Event, string (line_kind_name kinds.Sent))
    ∷ (key.InFlight, boolean packet.in_flight)
    ∷ (key.Leave, string (permission_name packet.permission))
    ∷ (key.Number, integer packet.number)
    ∷ (key.Size, integer packet.size)
    ∷ (key.Space, string (space_name packet.space))
    ∷ (key.Time, integer packet.time)
    ∷ []
event_pairs (events.Ack ack) =
    (key.Delay, integer ack.delay)
    ∷ (key.Event, string (line_kind_name kinds.Ack))
    ∷ (key.Limited, boolean ack.app_limited)
    ∷ (key.Ranges, json.array (integer_pairs ack.ranges))
    ∷ (key.Space, string (space_name ack.space))
    ∷ (key.Time, integer ack.time)
    ∷ []
event_pairs (Lost time space ranges) =
    (key.Event, string (line_kind_name kinds.Lost))
    ∷ (key.Ranges, json.array (integer_pairs ranges)) ∷ (key.Space, string (space_name space))
    ∷ (key.Time, integer time) ∷ []
event_pairs (Timer time kind space) =
    (key.Event, string (line_kind_name kinds.Timer)) ∷ (key.Kind, string (kind_name kind))
    ∷ (key.Space, string (space_name space)) ∷ (key.Time, integer time) ∷ []
event_pairs (Discard time space) =
    (key.Event, string (line_kind_name kinds.Discard)) ∷ (key.Space, string (space_name space))
    ∷ (key.Time, integer time) ∷ []
event_pairs (Confirmed time) =
    (key.Event, string (line_kind_name kinds.Confirmed)) ∷ (key.Time, integer time) ∷ []
event_pairs (Keys time) =
    (key.Event, string (line_kind_name kinds.Keys)) ∷ (key.Time, integer time) ∷ []
event_pairs (Metrics time values) =
    reported BytesInFlight values.bytes_in_flight
    ++ (key.Event, string (line_kind_name kinds.Metrics))
    ∷ reported LatestRtt values.latest_rtt
    ++ reported MinRtt values.min_rtt
    ++ reported Rttvar values.rttvar
    ++ reported SmoothedRtt values.smoothed_rtt
    ++ reported Ssthresh values.ssthresh
    ++ (key.Time, integer time)
    ∷ reported Window values.window

-- ---- the line

abbrev pub members : Pairs → Members
members [] = no_members
members (pair ∷ pairs) = member (key_name pair.0) pair.1 (members pairs)

-- the object of these keys and values
abbrev pub object_of : Pairs → Data
object_of pairs = json.object (members pairs)

-- one JSON object without white space, or the empty text for a blank line
abbrev pub written : Line → List ℕ
written line.Blank = []
written (line.Header s) = compact_text (object_of (header_pairs s))
written (line.Event e) = compact_text (object_of (event_pairs e))

-- the line is one that can be read again: its event fits
abbrev pub line_fits : Line → Bool
line_fits line.Blank = true
line_fits (line.Header s) = true
line_fits (line.Event e) = fits e

-- ---- the limit of a line

-- what an acknowledgment may leave out: a delay of 0
abbrev pub delay_pairs : ℕ → Pairs
delay_pairs delay = if delay == 0 then [] else ((key.Delay, integer delay) ∷ [])

-- and that the application did not limit it
abbrev pub limited_pairs : Bool → Pairs
limited_pairs false = []
limited_pairs true = (key.Limited, boolean true) ∷ []

-- what an acknowledgment cannot leave out
abbrev pub needed_pairs : Ack → Pairs
needed_pairs ack =
    delay_pairs ack.delay
    ++ (key.Event, string (line_kind_name kinds.Ack))
    ∷ limited_pairs ack.app_limited
    ++ (key.Ranges, json.array (integer_pairs ack.ranges))
    ∷ (key.Space, string (space_name ack.space))
    ∷ (key.Time, integer ack.time)
    ∷ []

-- the shortest line that says an acknowledgment or a loss; of other events the line that is written
abbrev pub shortest : Event → List ℕ
shortest (events.Ack ack) = compact_text (object_of (needed_pairs ack))
shortest e = written (line.Event e)

-- how much shorter it is than what is written: by `"delay":0,` and by `"limited":false,`
abbrev pub left_out : Event → ℕ
left_out (events.Ack ack) =
    (if ack.delay == 0 then 10 else 0) + (if ack.app_limited then 0 else 16)
left_out _ = 0

-- some line says the event: one with very many ranges may be too long for any
abbrev pub has_line : Event → Bool
has_line (events.Ack ack) = nat_le (length (shortest (events.Ack ack))) line_limit
has_line (Lost time space ranges) = nat_le (length (shortest (Lost time space ranges))) line_limit
has_line _ = true

-- with so many ranges the text is short, whatever their numbers are
abbrev pub few_ranges : ℕ
few_ranges = 1024

-- The names and numbers of keys, fields, choices and rules, and what a string names.
use Rattle.std.specs.Prelude.{ℕ, List, [], ◌∷◌, ◌++◌, codes, decimal, bytes_eq, Option, Some, None}
use Rattle.std.specs.Prelude.{if◌then◌else◌}
use Rattle.qa_base.specs.declared.key.Key.{Key}
use Rattle.qa_base.specs.declared.key.Key.TheVariants as key
use Rattle.qa_base.specs.declared.header.Version.{Version}
use Rattle.qa_base.specs.declared.header.Version.TheVariants.{One, Two, Three}
use Rattle.qa_base.specs.declared.line_kind.LineKind.{LineKind}
use Rattle.qa_base.specs.declared.line_kind.LineKind.TheVariants as kinds
use Rattle.qa_base.specs.declared.rule.Field.{Field}
use Rattle.qa_base.specs.declared.rule.Field.TheVariants as field
use Rattle.qa_base.specs.declared.rule.Rule.{Rule}
use Rattle.qa_base.specs.declared.rule.Rule.TheVariants as rule
use Rattle.qa_base.specs.declared.space.Role.{Role}
use Rattle.qa_base.specs.declared.space.Role.TheVariants.{Client, Server}
use Rattle.qa_base.specs.declared.space.Space.{Space}
use Rattle.qa_base.specs.declared.space.Space.TheVariants.{Initial, Handshake, App}
use Rattle.qa_base.specs.declared.space.TimeUnit.{TimeUnit}
use Rattle.qa_base.specs.declared.space.TimeUnit.TheVariants.{Microseconds, Nanoseconds}
use Rattle.qa_base.specs.declared.space.Controller.{Controller}
use Rattle.qa_base.specs.declared.space.Controller.TheVariants.{NewReno, Reported}
use Rattle.qa_base.specs.declared.space.LossByNumber.{LossByNumber}
use Rattle.qa_base.specs.declared.space.LossByNumber.TheVariants.{Must, May}
use Rattle.qa_base.specs.declared.space.ThresholdCounts.{ThresholdCounts}
use Rattle.qa_base.specs.declared.space.ThresholdCounts.TheVariants.{Numbers, Packets}
use Rattle.qa_base.specs.declared.space.TimerKind.{TimerKind}
use Rattle.qa_base.specs.declared.space.TimerKind.TheVariants.{Loss, Pto}
use Rattle.qa_base.specs.declared.space.Permission.{Permission}
use Rattle.qa_base.specs.declared.space.Permission.TheVariants.{Window, Probe, Recovery}

-- ---- keys and fields

abbrev pub field_name : Field → List ℕ
field_name field.Window = codes "window"
field_name field.Ssthresh = codes "ssthresh"
field_name field.BytesInFlight = codes "bytes_in_flight"
field_name field.LatestRtt = codes "latest_rtt"
field_name field.MinRtt = codes "min_rtt"
field_name field.SmoothedRtt = codes "smoothed_rtt"
field_name field.Rttvar = codes "rttvar"

abbrev pub key_name : Key → List ℕ
key_name key.Event = codes "event"
key_name key.Version = codes "version"
key_name key.Role = codes "role"
key_name key.Unit = codes "unit"
key_name key.Window = codes "window"
key_name key.MaxDatagramSize = codes "max_datagram_size"
key_name key.MaxAckDelay = codes "max_ack_delay"
key_name key.InitialRtt = codes "initial_rtt"
key_name key.InitialWindow = codes "initial_window"
key_name key.TimerLateUs = codes "timer_late_us"
key_name key.RefreshMinRtt = codes "refresh_min_rtt"
key_name key.ReportSlackUs = codes "report_slack_us"
key_name key.ReportSlackBytes = codes "report_slack_bytes"
key_name key.WindowOvershoot = codes "window_overshoot"
key_name key.SampleElicitingOnly = codes "sample_eliciting_only"
key_name key.PacketThreshold = codes "packet_threshold"
key_name key.TimerEarlyUs = codes "timer_early_us"
key_name key.LossByNumber = codes "loss_by_number"
key_name key.ThresholdCounts = codes "threshold_counts"
key_name key.ResetRtt = codes "reset_rtt"
key_name key.LatestRttLessDelay = codes "latest_rtt_less_delay"
key_name key.TimeThresholdEighths = codes "time_threshold_eighths"
key_name key.RecoveryByOrder = codes "recovery_by_order"
key_name key.Time = codes "time"
key_name key.Space = codes "space"
key_name key.Number = codes "number"
key_name key.Size = codes "size"
key_name key.Eliciting = codes "eliciting"
key_name key.InFlight = codes "in_flight"
key_name key.Leave = codes "leave"
key_name key.Ranges = codes "ranges"
key_name key.Delay = codes "delay"
key_name key.Limited = codes "limited"
key_name key.Kind = codes "kind"
key_name (key.Metric f) = field_name f

-- ---- choices

-- what stands at the key `event`
abbrev pub line_kind_name : LineKind → List ℕ
line_kind_name kinds.Header = codes "header"
line_kind_name kinds.Sent = codes "sent"
line_kind_name kinds.Ack = codes "ack"
line_kind_name kinds.Lost = codes "lost"
line_kind_name kinds.Timer = codes "timer"
line_kind_name kinds.Discard = codes "discard"
line_kind_name kinds.Confirmed = codes "confirmed"
line_kind_name kinds.Keys = codes "keys"
line_kind_name kinds.Metrics = codes "metrics"

-- the version of the format that a header has
abbrev pub version_number : Version → ℕ
version_number One = 1
version_number Two = 2
version_number Three = 3

abbrev pub role_name : Role → List ℕ
role_name Client = codes "client"
role_name Server = codes "server"

abbrev pub unit_name : TimeUnit → List ℕ
unit_name Microseconds = codes "us"
unit_name Nanoseconds = codes "ns"

abbrev pub controller_name : Controller → List ℕ
controller_name NewReno = codes "newreno"
controller_name Reported = codes "reported"

abbrev pub loss_by_number_name : LossByNumber → List ℕ
loss_by_number_name Must = codes "must"
loss_by_number_name May = codes "may"

abbrev pub threshold_counts_name : ThresholdCounts → List ℕ
threshold_counts_name Numbers = codes "numbers"
threshold_counts_name Packets = codes "packets"

abbrev pub space_name : Space → List ℕ
space_name Initial = codes "initial"
space_name Handshake = codes "handshake"
space_name App = codes "app"

abbrev pub permission_name : Permission → List ℕ
permission_name Window = codes "window"
permission_name Probe = codes "probe"
permission_name Recovery = codes "recovery"

abbrev pub kind_name : TimerKind → List ℕ
kind_name Loss = codes "loss"
kind_name Pto = codes "pto"

-- ---- what a string names

-- what stands beside the first of these names that the string is
abbrev pub named : {A : Type 0} → List (List ℕ × A) → List ℕ → Option A
named [] text = None
named (word ∷ words) text = if bytes_eq text word.0 then Some word.1 else named words text

-- each of these beside its name
abbrev pub with_names : {A : Type 0} → (A → List ℕ) → List A → List (List ℕ × A)
with_names name [] = []
with_names name (x ∷ xs) = (name x, x) ∷ with_names name xs

abbrev pub line_kind_named : List ℕ → Option LineKind
line_kind_named =
    named (with_names line_kind_name (
    kinds.Header ∷ kinds.Sent ∷ kinds.Ack ∷ kinds.Lost ∷ kinds.Timer ∷ kinds.Discard
    ∷ kinds.Confirmed ∷ kinds.Keys ∷ kinds.Metrics ∷ []))

abbrev pub role_named : List ℕ → Option Role
role_named = named (with_names role_name (Client ∷ Server ∷ []))

abbrev pub unit_named : List ℕ → Option TimeUnit
unit_named = named (with_names unit_name (Microseconds ∷ Nanoseconds ∷ []))

abbrev pub controller_named : List ℕ → Option Controller
controller_named = named (with_names controller_name (NewReno ∷ Reported ∷ []))

abbrev pub loss_by_number_named : List ℕ → Option LossByNumber
loss_by_number_named = named (with_names loss_by_number_name (Must ∷ May ∷ []))

abbrev pub threshold_counts_named : List ℕ → Option ThresholdCounts
threshold_counts_named = named (with_names threshold_counts_name (Numbers ∷ Packets ∷ []))

abbrev pub space_named : List ℕ → Option Space
space_named = named (with_names space_name (Initial ∷ Handshake ∷ App ∷ []))

-- the spaces whose keys are discarded (RFC 9001, section 4.9)
abbrev pub discarded_named : List ℕ → Option Space
discarded_named = named (with_names space_name (Initial ∷ Handshake ∷ []))

abbrev pub permission_named : List ℕ → Option Permission
permission_named = named (with_names permission_name (Window ∷ Probe ∷ Recovery ∷ []))

abbrev pub kind_named : List ℕ → Option TimerKind
kind_named = named (with_names kind_name (Loss ∷ Pto ∷ []))

-- ---- rules

abbrev pub rule_name : Rule → List ℕ
rule_name rule.TimeBack = codes "time-back"
rule_name rule.LossOwed = codes "loss-owed"
rule_name rule.LossNotOwed = codes "loss-not-owed"
rule_name rule.LossSet = codes "loss-set"
rule_name rule.SpaceGone = codes "space-gone"
rule_name rule.NumberNotHigher = codes "number-not-higher"
rule_name rule.PastWindow = codes "past-window"
rule_name rule.PastProbe = codes "past-probe"
rule_name rule.PastRecovery = codes "past-recovery"
rule_name rule.AckUnsent = codes "ack-unsent"
rule_name rule.TimerNotSet = codes "timer-not-set"
rule_name rule.TimerOther = codes "timer-other"
rule_name rule.TimerEarly = codes "timer-early"
rule_name rule.ProbeOwed = codes "probe-owed"
rule_name rule.NotConfirmed = codes "not-confirmed"
rule_name (rule.Metric f) = codes "metric"
rule_name rule.OwedAtEnd = codes "owed-at-end"
rule_name rule.TimerLate = codes "timer-late"
rule_name rule.CollapseMissing = codes "collapse-missing"

abbrev pub rule_number : Rule → ℕ
rule_number rule.TimeBack = 1
rule_number rule.LossOwed = 2
rule_number rule.LossNotOwed = 3
rule_number rule.LossSet = 4
rule_number rule.SpaceGone = 5
rule_number rule.NumberNotHigher = 6
rule_number rule.PastWindow = 7
rule_number rule.PastProbe = 8
rule_number rule.PastRecovery = 9
rule_number rule.AckUnsent = 10
rule_number rule.TimerNotSet = 11
rule_number rule.TimerOther = 12
rule_number rule.TimerEarly = 13
rule_number rule.ProbeOwed = 14
rule_number rule.NotConfirmed = 15
rule_number (rule.Metric f) = 16
rule_number rule.OwedAtEnd = 17
rule_number rule.TimerLate = 18
rule_number rule.CollapseMissing = 19

-- the reported value that differs, of a metric
abbrev pub field_of : Rule → Option Field
field_of (rule.Metric f) = Some f
field_of _ = None

-- the field that a rule is about, behind a space
abbrev pub field_text : Option Field → List ℕ
field_text None = []
field_text (Some f) = codes " " ++ field_name f

-- the rule as a report has it
unfoldable pub rule_text : Rule → List ℕ
rule_text r =
    codes "V" ++ decimal (rule_number r) ++ codes " " ++ rule_name r ++ field_text (field_of r)

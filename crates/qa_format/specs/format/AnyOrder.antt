-- The texts of a line with its keys in any order, those that have their default left out or not.
-- Pairs are keys with their values, as they stand in the line's object.
use Rattle.std.specs.Prelude.{◌≡◌, ◌⊎◌, ℕ, List, [], ◌∷◌, false}
use Rattle.std.specs.List.{AllByRecursion}
use Rattle.serde_json.specs.Data.{Data}
use Rattle.serde_json.specs.Written.{compact_text}
use Rattle.qa_base.specs.declared.event.Event.{Event}
use Rattle.qa_base.specs.declared.key.Key.{Key}
use Rattle.qa_base.specs.declared.key.Key.TheVariants as key
use Rattle.qa_base.specs.declared.space.Permission.TheVariants.{Window}
use Rattle.qa_base.specs.declared.space.TimeUnit.{TimeUnit}
use Rattle.qa_base.specs.declared.space.TimeUnit.TheVariants.{Microseconds}
use Rattle.qa_base.specs.values.Constants.{default_initial_rtt, default_max_ack_delay}
use Rattle.qa_base.specs.values.Names.{permission_name, unit_name, controller_name}
use Rattle.qa_base.specs.values.Names.{loss_by_number_name, threshold_counts_name}
use Rattle.qa_base.specs.values.Settings.{Settings, in_unit, default_window, no_options}
use Rattle.qa_format.specs.format.Written.{Pairs, integer, string, boolean, header_pairs}
use Rattle.qa_format.specs.format.Written.{event_pairs, object_of}

-- the pair is one of these
abbrev pub IsAmong : Key × Data → Pairs → Type 0
IsAmong pair [] = ⊥
IsAmong pair (other ∷ others) = (pair ≡ other) ⊎ IsAmong pair others

-- The pairs are a line's keys and values, in any order: each is one of the line's, and each of the
-- line's is there or is a default. (So a key may stand there twice, with one value.)
pub record AreOfLine (line defaults pairs : Pairs) : Type 0 where
  pub each : AllByRecursion (λ pair. IsAmong pair line) pairs
  pub complete : AllByRecursion (λ pair. IsAmong pair pairs ⊎ IsAmong pair defaults) line

-- ---- events

-- the keys of events that may be absent, each with the value that it stands for then
abbrev pub event_defaults : Pairs
event_defaults =
    (key.Delay, integer 0) ∷ (key.Leave, string (permission_name Window))
    ∷ (key.Limited, boolean false) ∷ []

-- the pairs are the keys and values of the event
abbrev pub AreOf : Event → Pairs → Type 0
AreOf e = AreOfLine (event_pairs e) event_defaults

-- ---- headers

-- the same of a header with times in this unit and with this datagram size, by which the initial
-- window is computed; some are keys of later versions alone
abbrev pub header_defaults : TimeUnit → ℕ → Pairs
header_defaults unit max_datagram_size =
    (key.InitialRtt, integer (in_unit unit default_initial_rtt))
    ∷ (key.InitialWindow, integer (default_window max_datagram_size))
    ∷ (key.LatestRttLessDelay, boolean no_options.latest_rtt_less_delay)
    ∷ (key.LossByNumber, string (loss_by_number_name no_options.loss_by_number))
    ∷ (key.MaxAckDelay, integer (in_unit unit default_max_ack_delay))
    ∷ (key.PacketThreshold, integer no_options.packet_threshold)
    ∷ (key.RecoveryByOrder, boolean no_options.recovery_by_order)
    ∷ (key.RefreshMinRtt, boolean no_options.refresh_min_rtt)
    ∷ (key.ReportSlackBytes, integer no_options.report_slack_bytes)
    ∷ (key.ReportSlackUs, integer no_options.report_slack_us)
    ∷ (key.ResetRtt, boolean no_options.reset_rtt)
    ∷ (key.SampleElicitingOnly, boolean no_options.sample_eliciting_only)
    ∷ (key.ThresholdCounts, string (threshold_counts_name no_options.threshold_counts))
    ∷ (key.TimeThresholdEighths, integer no_options.time_threshold_eighths)
    ∷ (key.TimerEarlyUs, integer no_options.timer_early_us)
    ∷ (key.Unit, string (unit_name Microseconds))
    ∷ (key.Window, string (controller_name no_options.controller))
    ∷ (key.WindowOvershoot, boolean no_options.window_overshoot)
    ∷ []

-- the pairs are the keys and values of the header
abbrev pub AreOfHeader : Settings → Pairs → Type 0
AreOfHeader s = AreOfLine (header_pairs s) (header_defaults s.unit s.max_datagram_size)

-- ---- the text

-- one JSON object without white space, with these keys and values in this order
abbrev pub text_of : Pairs → List ℕ
text_of pairs = compact_text (object_of pairs)

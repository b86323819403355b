-- The events that are read, by the names of the drafts.
use Rattle.std.specs.Prelude.{◌==◌, ℕ, Bool, List, [], ◌∷◌, codes, bytes_eq, Option, Some, None}
use Rattle.std.specs.Prelude.{if◌then◌else◌}
use Rattle.std.specs.List.{list_any}
use Rattle.std.specs.Option.{option_or}
use Rattle.std.specs.Str.{str_eq_ignore_ascii_case}
use Rattle.qa_qlog.specs.declared.names.EventName.{EventName}
use Rattle.qa_qlog.specs.declared.names.EventName.TheVariants as event

abbrev pub of_packets : List (List ℕ × EventName)
of_packets =
    (codes "packet_sent", event.PacketSent)
    ∷ (codes "packet_received", event.PacketReceived)
    ∷ (codes "packet_lost", event.PacketLost)
    ∷ (codes "packets_lost", event.PacketsLost)
    ∷ []

-- drafts have two more names for metrics, and one more for a timer
abbrev pub of_recovery : List (List ℕ × EventName)
of_recovery =
    (codes "metrics_updated", event.MetricsUpdated)
    ∷ (codes "recovery_metrics_updated", event.MetricsUpdated)
    ∷ (codes "metric_update", event.MetricsUpdated)
    ∷ (codes "recovery_parameters_set", event.RecoveryParametersSet)
    ∷ (codes "congestion_state_updated", event.CongestionStateUpdated)
    ∷ (codes "loss_timer_updated", event.LossTimerUpdated)
    ∷ (codes "timer_updated", event.LossTimerUpdated)
    ∷ []

abbrev pub of_connection : List (List ℕ × EventName)
of_connection =
    (codes "key_updated", event.KeyUpdated)
    ∷ (codes "key_retired", event.KeyRetired)
    ∷ (codes "key_discarded", event.KeyDiscarded)
    ∷ (codes "parameters_set", event.ParametersSet)
    ∷ (codes "transport_parameters_set", event.ParametersSet)
    ∷ []

abbrev pub named_in : List (List ℕ × EventName) → List ℕ → Option EventName
named_in [] name = None
named_in (n ∷ ns) name = if bytes_eq name n.0 then Some n.1 else named_in ns name

-- the event of a name without a category
abbrev pub known : List ℕ → Option EventName
known name = option_or (named_in of_packets name)
    (option_or (named_in of_recovery name) (named_in of_connection name))

abbrev pub is_colon : ℕ → Bool
is_colon byte = byte == 58

-- what follows the last colon; all if there is none
abbrev pub without_category : List ℕ → List ℕ
without_category [] = []
without_category (b ∷ bs) = if list_any is_colon (b ∷ bs) then without_category bs else b ∷ bs

-- the event of a name. The category tells two apart: parameters of recovery, and of transport
abbrev pub named : List ℕ → Option EventName
named name =
    if bytes_eq name (codes "recovery:parameters_set") then Some event.RecoveryParametersSet
    else known (without_category name)

-- ---- types

-- what a table has for the name of a type, in capitals or small letters
abbrev pub type_in : {T : Type 0} → List (List ℕ × T) → List ℕ → Option T
type_in [] name = None
type_in (n ∷ ns) name = if str_eq_ignore_ascii_case name n.0 then Some n.1 else type_in ns name

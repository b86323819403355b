-- Names that other tools have for keys of the format.
use Rattle.std.specs.Prelude.{ℕ, codes, List, [], ◌∷◌, ◌++◌, Option}
use Rattle.qa_base.specs.declared.key.Key.{Key}
use Rattle.qa_base.specs.declared.key.Key.TheVariants as key
use Rattle.qa_base.specs.declared.line_kind.LineKind.{LineKind}
use Rattle.qa_base.specs.declared.line_kind.LineKind.TheVariants as kinds
use Rattle.qa_base.specs.declared.rule.Field.TheVariants.{Window, Ssthresh, BytesInFlight}
use Rattle.qa_base.specs.declared.rule.Field.TheVariants.{LatestRtt, MinRtt, SmoothedRtt, Rttvar}
use Rattle.qa_base.specs.values.Names.{named}

-- names beside the key that each stands for
abbrev pub Names : Type 0
Names = List (List ℕ × Key)

abbrev pub of_header : Names
of_header =
    (codes "initial_cwnd", key.InitialWindow) ∷ (codes "init_cwnd", key.InitialWindow)
    ∷ (codes "mss", key.MaxDatagramSize) ∷ (codes "mtu", key.MaxDatagramSize)
    ∷ (codes "max_udp_payload_size", key.MaxDatagramSize)
    ∷ (codes "ack_delay_max", key.MaxAckDelay) ∷ (codes "rtt", key.InitialRtt)
    ∷ (codes "init_rtt", key.InitialRtt) ∷ []

abbrev pub of_event : Names
of_event = (codes "ts", key.Time) ∷ (codes "timestamp", key.Time) ∷ []

abbrev pub of_space : Names
of_space = (codes "pn_space", key.Space) ∷ (codes "packet_number_space", key.Space) ∷ []

abbrev pub of_packet : Names
of_packet =
    (codes "pn", key.Number) ∷ (codes "packet_number", key.Number) ∷ (codes "length", key.Size)
    ∷ (codes "bytes", key.Size)
    ∷ (codes "ack_eliciting", key.Eliciting) ∷ []

abbrev pub of_ack : Names
of_ack = (codes "ack_delay", key.Delay) ∷ []

abbrev pub of_metrics : Names
of_metrics =
    (codes "cwnd", key.Metric Window) ∷ (codes "congestion_window", key.Metric Window)
    ∷ (codes "ss_thresh", key.Metric Ssthresh)
    ∷ (codes "inflight", key.Metric BytesInFlight) ∷ (codes "in_flight", key.Metric BytesInFlight)
    ∷ (codes "rtt", key.Metric LatestRtt) ∷ (codes "rtt_min", key.Metric MinRtt)
    ∷ (codes "srtt", key.Metric SmoothedRtt)
    ∷ (codes "rtt_var", key.Metric Rttvar) ∷ (codes "rtt_variance", key.Metric Rttvar)
    ∷ (codes "rttvariance", key.Metric Rttvar) ∷ []

-- the other names for keys of a line of this kind
abbrev pub other_names : LineKind → Names
other_names kinds.Header = of_header
other_names kinds.Sent = of_event ++ of_space ++ of_packet
other_names kinds.Ack = of_event ++ of_space ++ of_ack
other_names kinds.Lost = of_event ++ of_space
other_names kinds.Timer = of_event ++ of_space
other_names kinds.Discard = of_event ++ of_space
other_names kinds.Confirmed = of_event
other_names kinds.Keys = of_event
other_names kinds.Metrics = of_event ++ of_metrics

-- the key of such a line that this is another name for
abbrev pub other_name : LineKind → List ℕ → Option Key
other_name kind name = named (other_names kind) name

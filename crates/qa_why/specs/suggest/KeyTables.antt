-- Which keys a line has, by the tables of the format.
use Rattle.std.specs.Prelude.{ℕ, Bool, bytes_eq, List, [], ◌∷◌, ◌++◌}
use Rattle.std.specs.List.{list_any}
use Rattle.qa_base.specs.declared.header.Version.{Version}
use Rattle.qa_base.specs.declared.header.Version.TheVariants.{One, Two, Three}
use Rattle.qa_base.specs.declared.key.Key.{Key}
use Rattle.qa_base.specs.declared.key.Key.TheVariants as key
use Rattle.qa_base.specs.declared.line_kind.LineKind.{LineKind}
use Rattle.qa_base.specs.declared.line_kind.LineKind.TheVariants as kinds
use Rattle.qa_base.specs.declared.rule.Field.TheVariants.{Window, Ssthresh, BytesInFlight}
use Rattle.qa_base.specs.declared.rule.Field.TheVariants.{LatestRtt, MinRtt, SmoothedRtt, Rttvar}
use Rattle.qa_base.specs.values.Names.{key_name}

-- ---- the header

-- those of a header of version 1
abbrev pub first_keys : List Key
first_keys =
    key.Event ∷ key.Version ∷ key.Role ∷ key.MaxDatagramSize ∷ key.MaxAckDelay ∷ key.InitialRtt
    ∷ key.InitialWindow ∷ []

-- those that version 2 has beside them
abbrev pub second_keys : List Key
second_keys = key.TimerLateUs ∷ key.RefreshMinRtt ∷ key.ReportSlackUs ∷ key.ReportSlackBytes ∷ []

-- those that version 3 has beside all these
abbrev pub third_keys : List Key
third_keys =
    key.Unit ∷ key.Window ∷ key.WindowOvershoot ∷ key.SampleElicitingOnly ∷ key.PacketThreshold
    ∷ key.TimerEarlyUs ∷ key.LossByNumber ∷ key.ThresholdCounts ∷ key.ResetRtt
    ∷ key.LatestRttLessDelay ∷ key.TimeThresholdEighths ∷ key.RecoveryByOrder ∷ []

abbrev pub header_keys : Version → List Key
header_keys One = first_keys
header_keys Two = first_keys ++ second_keys
header_keys Three = first_keys ++ second_keys ++ third_keys

-- ---- any line

-- the keys of a line of this kind, in the order of its table, where the header has this version
abbrev pub keys_of : Version → LineKind → List Key
keys_of v kinds.Header = header_keys v
keys_of v kinds.Sent =
    key.Event ∷ key.Time ∷ key.Space ∷ key.Number ∷ key.Size ∷ key.Eliciting ∷ key.InFlight
    ∷ key.Leave ∷ []
keys_of v kinds.Ack = key.Event ∷ key.Time ∷ key.Space ∷ key.Ranges ∷ key.Delay ∷ key.Limited ∷ []
keys_of v kinds.Lost = key.Event ∷ key.Time ∷ key.Space ∷ key.Ranges ∷ []
keys_of v kinds.Timer = key.Event ∷ key.Time ∷ key.Kind ∷ key.Space ∷ []
keys_of v kinds.Discard = key.Event ∷ key.Time ∷ key.Space ∷ []
keys_of v kinds.Confirmed = key.Event ∷ key.Time ∷ []
keys_of v kinds.Keys = key.Event ∷ key.Time ∷ []
keys_of v kinds.Metrics =
    key.Event ∷ key.Time ∷ key.Metric Window ∷ key.Metric Ssthresh ∷ key.Metric BytesInFlight
    ∷ key.Metric LatestRtt ∷ key.Metric MinRtt ∷ key.Metric SmoothedRtt ∷ key.Metric Rttvar ∷ []

-- one of these keys has this name
abbrev pub is_among : List Key → List ℕ → Bool
is_among ks name = list_any (λ k. bytes_eq name (key_name k)) ks

-- a line of this kind has a key of this name
abbrev pub is_key : Version → LineKind → List ℕ → Bool
is_key v kind name = is_among (keys_of v kind) name

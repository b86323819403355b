-- The names of events, spaces, reasons and timers are plain bytes, and so are the keys.
use Rattle.std.proofs.Common.{◌≡◌, true, refl}
use Rattle.std.specs.List.{list_all}
use Rattle.qa_base.specs.declared.key.Key.{Key}
use Rattle.qa_base.specs.declared.key.Key.TheVariants as key
use Rattle.qa_base.specs.declared.rule.Field.{Field}
use Rattle.qa_base.specs.declared.rule.Field.TheVariants as field
use Rattle.qa_base.specs.declared.line_kind.LineKind.{LineKind}
use Rattle.qa_base.specs.declared.line_kind.LineKind.TheVariants as kinds
use Rattle.qa_base.specs.declared.space.TimerKind.{TimerKind}
use Rattle.qa_base.specs.declared.space.TimerKind.TheVariants.{Loss, Pto}
use Rattle.qa_base.specs.declared.space.Permission.{Permission}
use Rattle.qa_base.specs.declared.space.Permission.TheVariants.{Window, Probe, Recovery}
use Rattle.qa_base.specs.declared.space.Space.{Space}
use Rattle.qa_base.specs.declared.space.Space.TheVariants.{Initial, Handshake, App}
use Rattle.qa_base.specs.values.Names.{key_name, field_name, line_kind_name, space_name, permission_name, kind_name}
use Rattle.qa_scan.specs.Lexes.{is_plain}

pub line_kind_is_plain : (k : LineKind) → list_all is_plain (line_kind_name k) ≡ true
line_kind_is_plain kinds.Header = refl
line_kind_is_plain kinds.Sent = refl
line_kind_is_plain kinds.Ack = refl
line_kind_is_plain kinds.Lost = refl
line_kind_is_plain kinds.Timer = refl
line_kind_is_plain kinds.Discard = refl
line_kind_is_plain kinds.Confirmed = refl
line_kind_is_plain kinds.Keys = refl
line_kind_is_plain kinds.Metrics = refl

pub space_is_plain : (s : Space) → list_all is_plain (space_name s) ≡ true
space_is_plain Initial = refl
space_is_plain Handshake = refl
space_is_plain App = refl

pub permission_is_plain : (l : Permission) → list_all is_plain (permission_name l) ≡ true
permission_is_plain Window = refl
permission_is_plain Probe = refl
permission_is_plain Recovery = refl

pub kind_is_plain : (k : TimerKind) → list_all is_plain (kind_name k) ≡ true
kind_is_plain Loss = refl
kind_is_plain Pto = refl

field_is_plain : (f : Field) → list_all is_plain (field_name f) ≡ true
field_is_plain field.Window = refl
field_is_plain field.Ssthresh = refl
field_is_plain field.BytesInFlight = refl
field_is_plain field.LatestRtt = refl
field_is_plain field.MinRtt = refl
field_is_plain field.SmoothedRtt = refl
field_is_plain field.Rttvar = refl

pub key_is_plain : (k : Key) → list_all is_plain (key_name k) ≡ true
key_is_plain key.Event = refl
key_is_plain key.Version = refl
key_is_plain key.Role = refl
key_is_plain key.Unit = refl
key_is_plain key.Window = refl
key_is_plain key.MaxDatagramSize = refl
key_is_plain key.MaxAckDelay = refl
key_is_plain key.InitialRtt = refl
key_is_plain key.InitialWindow = refl
key_is_plain key.TimerLateUs = refl
key_is_plain key.RefreshMinRtt = refl
key_is_plain key.ReportSlackUs = refl
key_is_plain key.ReportSlackBytes = refl
key_is_plain key.WindowOvershoot = refl
key_is_plain key.SampleElicitingOnly = refl
key_is_plain key.PacketThreshold = refl
key_is_plain key.TimerEarlyUs = refl
key_is_plain key.LossByNumber = refl
key_is_plain key.ThresholdCounts = refl
key_is_plain key.ResetRtt = refl
key_is_plain key.LatestRttLessDelay = refl
key_is_plain key.TimeThresholdEighths = refl
key_is_plain key.RecoveryByOrder = refl
key_is_plain key.Time = refl
key_is_plain key.Space = refl
key_is_plain key.Number = refl
key_is_plain key.Size = refl
key_is_plain key.Eliciting = refl
key_is_plain key.InFlight = refl
key_is_plain key.Leave = refl
key_is_plain key.Ranges = refl
key_is_plain key.Delay = refl
key_is_plain key.Limited = refl
key_is_plain key.Kind = refl
key_is_plain (key.Metric f) = field_is_plain f

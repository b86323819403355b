-- Texts that stand in quotes as they are, and members of an object by the bytes of their keys.
use Rattle.std.proofs.Common.{◌≡◌, ◌∙◌, ℕ, ◌++◌, ◌∷◌, [], List, true, false, codes, refl, sym, ap, append_assoc}
use Rattle.json.specs.Print.{escape_byte, quoted}
use Rattle.serde_json.specs.Data.{Data, Members, member}
use Rattle.serde_json.specs.Written.{compact_text, members_text}
use Rattle.qa_base.specs.declared.key.Key.{Key}
use Rattle.qa_base.specs.declared.key.Key.TheVariants as key
use Rattle.qa_base.specs.declared.rule.Field.TheVariants as field
use Rattle.qa_base.specs.declared.space.TimerKind.{TimerKind}
use Rattle.qa_base.specs.declared.space.TimerKind.TheVariants.{Loss, Pto}
use Rattle.qa_base.specs.declared.space.Permission.{Permission}
use Rattle.qa_base.specs.declared.space.Permission.TheVariants.{Window, Probe, Recovery}
use Rattle.qa_base.specs.declared.space.Space.{Space}
use Rattle.qa_base.specs.declared.space.Space.TheVariants.{Initial, Handshake, App}
use Rattle.qa_base.specs.values.Names.{key_name, space_name, permission_name, kind_name}
use Rattle.qa_format.specs.format.Simple.{is_ascii}
use Rattle.qa_format.specs.format.Written.{string}

-- the text stands in quotes as it is
abbrev pub IsPlain : List ℕ → Type 0
IsPlain t = quoted t ≡ 34 ∷ (t ++ 34 ∷ [])

pub key_is_plain : (k : Key) → IsPlain (key_name k)
unfolding escape_byte
key_is_plain key.Event = refl
key_is_plain key.Version = refl
key_is_plain key.Role = refl
key_is_plain key.Unit = refl
key_is_plain key.Window = refl
key_is_plain key.MaxDatagramSize = refl
key_is_plain key.MaxAckDelay = refl
key_is_plain key.InitialRtt = refl
key_is_plain key.InitialWindow = refl
key_is_plain key.TimerLateUs = refl
key_is_plain key.RefreshMinRtt = refl
key_is_plain key.ReportSlackUs = refl
key_is_plain key.ReportSlackBytes = refl
key_is_plain key.WindowOvershoot = refl
key_is_plain key.SampleElicitingOnly = refl
key_is_plain key.PacketThreshold = refl
key_is_plain key.TimerEarlyUs = refl
key_is_plain key.LossByNumber = refl
key_is_plain key.ThresholdCounts = refl
key_is_plain key.ResetRtt = refl
key_is_plain key.LatestRttLessDelay = refl
key_is_plain key.TimeThresholdEighths = refl
key_is_plain key.RecoveryByOrder = refl
key_is_plain key.Time = refl
key_is_plain key.Space = refl
key_is_plain key.Number = refl
key_is_plain key.Size = refl
key_is_plain key.Eliciting = refl
key_is_plain key.InFlight = refl
key_is_plain key.Leave = refl
key_is_plain key.Ranges = refl
key_is_plain key.Delay = refl
key_is_plain key.Limited = refl
key_is_plain key.Kind = refl
key_is_plain (key.Metric field.Window) = refl
key_is_plain (key.Metric field.Ssthresh) = refl
key_is_plain (key.Metric field.BytesInFlight) = refl
key_is_plain (key.Metric field.LatestRtt) = refl
key_is_plain (key.Metric field.MinRtt) = refl
key_is_plain (key.Metric field.SmoothedRtt) = refl
key_is_plain (key.Metric field.Rttvar) = refl

pub key_is_ascii : (k : Key) → is_ascii (key_name k) ≡ true
key_is_ascii key.Event = refl
key_is_ascii key.Version = refl
key_is_ascii key.Role = refl
key_is_ascii key.Unit = refl
key_is_ascii key.Window = refl
key_is_ascii key.MaxDatagramSize = refl
key_is_ascii key.MaxAckDelay = refl
key_is_ascii key.InitialRtt = refl
key_is_ascii key.InitialWindow = refl
key_is_ascii key.TimerLateUs = refl
key_is_ascii key.RefreshMinRtt = refl
key_is_ascii key.ReportSlackUs = refl
key_is_ascii key.ReportSlackBytes = refl
key_is_ascii key.WindowOvershoot = refl
key_is_ascii key.SampleElicitingOnly = refl
key_is_ascii key.PacketThreshold = refl
key_is_ascii key.TimerEarlyUs = refl
key_is_ascii key.LossByNumber = refl
key_is_ascii key.ThresholdCounts = refl
key_is_ascii key.ResetRtt = refl
key_is_ascii key.LatestRttLessDelay = refl
key_is_ascii key.TimeThresholdEighths = refl
key_is_ascii key.RecoveryByOrder = refl
key_is_ascii key.Time = refl
key_is_ascii key.Space = refl
key_is_ascii key.Number = refl
key_is_ascii key.Size = refl
key_is_ascii key.Eliciting = refl
key_is_ascii key.InFlight = refl
key_is_ascii key.Leave = refl
key_is_ascii key.Ranges = refl
key_is_ascii key.Delay = refl
key_is_ascii key.Limited = refl
key_is_ascii key.Kind = refl
key_is_ascii (key.Metric field.Window) = refl
key_is_ascii (key.Metric field.Ssthresh) = refl
key_is_ascii (key.Metric field.BytesInFlight) = refl
key_is_ascii (key.Metric field.LatestRtt) = refl
key_is_ascii (key.Metric field.MinRtt) = refl
key_is_ascii (key.Metric field.SmoothedRtt) = refl
key_is_ascii (key.Metric field.Rttvar) = refl

pub space_is_plain : (x : Space) → IsPlain (space_name x)
unfolding escape_byte
space_is_plain Initial = refl
space_is_plain Handshake = refl
space_is_plain App = refl

pub permission_is_plain : (x : Permission) → IsPlain (permission_name x)
unfolding escape_byte
permission_is_plain Window = refl
permission_is_plain Probe = refl
permission_is_plain Recovery = refl

pub kind_is_plain : (x : TimerKind) → IsPlain (kind_name x)
unfolding escape_byte
kind_is_plain Loss = refl
kind_is_plain Pto = refl

pub sent_is_plain : IsPlain (codes "sent")
unfolding escape_byte
sent_is_plain = refl

pub ack_is_plain : IsPlain (codes "ack")
unfolding escape_byte
ack_is_plain = refl

pub lost_is_plain : IsPlain (codes "lost")
unfolding escape_byte
lost_is_plain = refl

pub timer_is_plain : IsPlain (codes "timer")
unfolding escape_byte
timer_is_plain = refl

pub discard_is_plain : IsPlain (codes "discard")
unfolding escape_byte
discard_is_plain = refl

pub confirmed_is_plain : IsPlain (codes "confirmed")
unfolding escape_byte
confirmed_is_plain = refl

pub metrics_is_plain : IsPlain (codes "metrics")
unfolding escape_byte
metrics_is_plain = refl

pub keys_is_plain : IsPlain (codes "keys")
unfolding escape_byte
keys_is_plain = refl

-- bytes that begin with a text in quotes
pub quoted_text : (t bytes rest : List ℕ) → IsPlain t → bytes ≡ 34 ∷ (t ++ 34 ∷ rest) → bytes ≡ compact_text (string t) ++ rest
quoted_text t bytes rest plain is = is ∙ sym (ap (λ q. q ++ rest) plain ∙ ap (λ w. 34 ∷ w) (append_assoc t (34 ∷ []) rest))

-- bytes that begin with a key and its value, before the text of more members
pub member_text : (k : List ℕ) (d : Data) (bytes v rest : List ℕ) (ms : Members) → IsPlain k → bytes ≡ 34 ∷ (k ++ 34 ∷ 58 ∷ v) → v ≡ compact_text d ++ rest → rest ≡ members_text true ms
    → bytes ≡ members_text false (member k d ms)
member_text k d bytes v rest ms plain is value more =
    quoted_text k bytes (58 ∷ v) plain is ∙ ap (λ w. quoted k ++ 58 ∷ w) (value ∙ ap (λ w. compact_text d ++ w) more)

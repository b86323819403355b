-- What is kept of a record, by its name and its data d.
use Rattle.std.specs.Prelude.{◌≡◌, Bool, true, false, Option, Some, None, Ok}
use Rattle.std.specs.Prelude.{if◌then◌else◌}
use Rattle.json.specs.Json.{Json}
use Rattle.qa_base.specs.declared.space.Space.{Space}
use Rattle.qa_qlog.specs.Losses as losses
use Rattle.qa_qlog.specs.Metrics as metrics
use Rattle.qa_qlog.specs.Numbers.{duration_in, whole_in}
use Rattle.qa_qlog.specs.Packets as packets
use Rattle.qa_qlog.specs.Parameters as parameters
use Rattle.qa_qlog.specs.Secrets.{key_space}
use Rattle.qa_qlog.specs.Timers as timers
use Rattle.qa_qlog.specs.declared.keys.Key.TheVariants as key
use Rattle.qa_qlog.specs.declared.names.EventName.{EventName}
use Rattle.qa_qlog.specs.declared.names.EventName.TheVariants as name
use Rattle.qa_qlog.specs.declared.packets.PacketType.{PacketType}
use Rattle.qa_qlog.specs.declared.packets.PacketType.TheVariants.{Retry}
use Rattle.qa_qlog.specs.declared.times.Unit.{Unit}
use Rattle.qa_qlog.specs.declared.times.Unit.TheVariants.{Milliseconds}
use Rattle.qa_convert.specs.Packets.{IsPacketOf, space_of}
use Rattle.qa_convert.specs.declared.event.LostPacket.{LostPacket}
use Rattle.qa_convert.specs.declared.event.PeerParameters.{PeerParameters}
use Rattle.qa_convert.specs.declared.event.RecoveryParameters.{RecoveryParameters}
use Rattle.qa_convert.specs.declared.event.Report.{Report}
use Rattle.qa_convert.specs.declared.event.Said.{Said}
use Rattle.qa_convert.specs.declared.event.Said.TheVariants as said

-- the space of a packet whose record has this data
abbrev pub space : Option Json → Option Space
space d = space_of (packets.header_of d) d

abbrev pub type_of : Option Json → Option PacketType
type_of d = packets.type_of (packets.header_of d) d

abbrev pub is_retry_type : Option PacketType → Bool
is_retry_type (Some Retry) = true
is_retry_type _ = false

abbrev pub is_retry : Option Json → Bool
is_retry d = is_retry_type (type_of d)

-- ---- packets

abbrev pub SaysSent : Unit → Option Json → Said → Type 0
SaysSent unit d (said.Sent p) = IsPacketOf unit d p
SaysSent unit d said.OtherSent = space d ≡ None
SaysSent unit d _ = ⊥

abbrev pub SaysReceived : Unit → Option Json → Said → Type 0
SaysReceived unit d (said.Received p) = IsPacketOf unit d p
SaysReceived unit d (said.OtherReceived retry) = (space d ≡ None) × (retry ≡ is_retry d)
SaysReceived unit d _ = ⊥

-- a packet with this header h that was declared lost
pub record IsLostOf (h d : Option Json) (is_repeated : Bool) (p : LostPacket) : Type 0 where
  pub space : space_of h d ≡ Some p.space
  pub number : packets.number h d ≡ Ok p.number
  pub repeated : p.is_repeated ≡ is_repeated

abbrev pub SaysLost : Option Json → Option Json → Bool → Said → Type 0
SaysLost h d repeated (said.Lost p) = IsLostOf h d repeated p
SaysLost h d repeated said.OtherLost = space_of h d ≡ None
SaysLost h d repeated _ = ⊥

-- ---- reports

abbrev pub is_count_alone : Option Json → Bool
is_count_alone None = false
is_count_alone (Some j) = metrics.has_only_pto_count j

pub record IsReportOf (unit : Unit) (d : Option Json) (r : Report) : Type 0 where
  pub rtts : metrics.rtts unit d ≡ Ok r.rtts
  pub bytes : metrics.sizes d ≡ Ok r.bytes
  pub count : whole_in key.PtoCount d ≡ Ok r.pto_count
  pub alone : r.has_only_pto_count ≡ is_count_alone d

abbrev pub SaysReport : Unit → Option Json → Said → Type 0
SaysReport unit d (said.Report r) = IsReportOf unit d r
SaysReport unit d _ = ⊥

-- ---- timers and parameters

abbrev pub timer : Option Json → Said
timer d =
    if timers.has_expired d
    then said.Expired (record { kind = timers.kind d; space = timers.space d })
    else said.TimerSet

pub record IsPeerOf (unit : Unit) (d : Option Json) (p : PeerParameters) : Type 0 where
  pub of_peer : parameters.is_of_peer d ≡ true
  pub delay : parameters.max_ack_delay unit d ≡ Ok p.max_ack_delay
  pub exponent : whole_in key.AckDelayExponent d ≡ Ok p.ack_delay_exponent

abbrev pub SaysParameters : Unit → Option Json → Said → Type 0
SaysParameters unit d (said.OfPeer p) = IsPeerOf unit d p
SaysParameters unit d said.OwnParameters = parameters.is_of_peer d ≡ false
SaysParameters unit d _ = ⊥

-- a time threshold is in millionths of the round-trip time: a millisecond has as many nanoseconds
pub record IsRecoveryOf (unit : Unit) (d : Option Json) (p : RecoveryParameters) : Type 0 where
  pub rtt : duration_in key.InitialRtt unit d ≡ Ok p.initial_rtt
  pub size : whole_in key.MaxDatagramSize d ≡ Ok p.max_datagram_size
  pub window : whole_in key.InitialCongestionWindow d ≡ Ok p.initial_window
  pub packets : whole_in key.ReorderingThreshold d ≡ Ok p.packet_threshold
  pub threshold : duration_in key.TimeThreshold Milliseconds d ≡ Ok p.time_threshold

abbrev pub SaysRecovery : Unit → Option Json → Said → Type 0
SaysRecovery unit d (said.Recovery p) = IsRecoveryOf unit d p
SaysRecovery unit d _ = ⊥

-- ---- any record

-- what is kept of a record is what it says
abbrev pub Says : Unit → EventName → Option Json → Said → Type 0
Says unit name.PacketSent d s = SaysSent unit d s
Says unit name.PacketReceived d s = SaysReceived unit d s
Says unit name.PacketLost d s = SaysLost (packets.header_of d) d (losses.is_repeated d) s
Says unit name.PacketsLost d s = s ≡ said.OtherLost
Says unit name.MetricsUpdated d s = SaysReport unit d s
Says unit name.RecoveryParametersSet d s = SaysRecovery unit d s
Says unit name.CongestionStateUpdated d s = s ≡ said.State (losses.is_application_limited d)
Says unit name.LossTimerUpdated d s = s ≡ timer d
Says unit name.KeyUpdated d s = s ≡ said.KeysCame (key_space d)
Says unit name.KeyRetired d s = s ≡ said.KeysGone (key_space d)
Says unit name.KeyDiscarded d s = s ≡ said.KeysGone (key_space d)
Says unit name.ParametersSet d s = SaysParameters unit d s

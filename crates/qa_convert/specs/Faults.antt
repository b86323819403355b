-- Why a record of a log cannot be read: which value of it is at fault. It is refused for nothing
-- else, but for want of memory.
use Rattle.std.specs.Prelude.{◌≡◌, ◌⊎◌, ⊤, ℕ, true, List, [], ◌∷◌, Option, Some, None, Ok, Err}
use Rattle.std.specs.Prelude.{IsUtf8}
use Rattle.json.specs.Json.{Json, document}
use Rattle.qa_base.specs.declared.space.Space.{Space}
use Rattle.qa_base.specs.values.Limits.{in_range, max_packet_number, max_packet_size}
use Rattle.qa_qlog.specs.Acks as acks
use Rattle.qa_qlog.specs.Frames as frames
use Rattle.qa_qlog.specs.Losses as losses
use Rattle.qa_qlog.specs.Metrics as metrics
use Rattle.qa_qlog.specs.Numbers.{duration_in, whole_in}
use Rattle.qa_qlog.specs.Packets as packets
use Rattle.qa_qlog.specs.Parameters as parameters
use Rattle.qa_qlog.specs.Records.{data_of, event_of}
use Rattle.qa_qlog.specs.declared.acks.NoRanges.{NoRanges}
use Rattle.qa_qlog.specs.declared.acks.NoRanges.TheVariants as no_ranges
use Rattle.qa_qlog.specs.declared.heads.Head.{Head}
use Rattle.qa_qlog.specs.declared.keys.Key.TheVariants as key
use Rattle.qa_qlog.specs.declared.keys.NoValue.{NoValue}
use Rattle.qa_qlog.specs.declared.keys.NoValue.TheVariants as value
use Rattle.qa_qlog.specs.declared.names.EventName.{EventName}
use Rattle.qa_qlog.specs.declared.names.EventName.TheVariants as name
use Rattle.qa_qlog.specs.declared.records.EventHead.{EventHead}
use Rattle.qa_qlog.specs.declared.times.Unit.{Unit}
use Rattle.qa_qlog.specs.declared.times.Unit.TheVariants.{Milliseconds}
use Rattle.qa_convert.specs.Connections.{Numbering}
use Rattle.qa_convert.specs.Packets.{is_ack, space_of}
use Rattle.qa_convert.specs.Reading.{chosen_only, name_of}
use Rattle.qa_convert.specs.declared.converting.NoMore.{NoMore}
use Rattle.qa_convert.specs.declared.converting.NoMore.TheVariants as more
use Rattle.qa_convert.specs.declared.event.Said.{Said}
use Rattle.qa_convert.specs.declared.event.Said.TheVariants as said
use Rattle.qa_convert.specs.declared.packet.NoEvent.{NoEvent}
use Rattle.qa_convert.specs.declared.packet.NoEvent.TheVariants as event
use Rattle.qa_convert.specs.declared.surveying.NoRecord.{NoRecord}
use Rattle.qa_convert.specs.declared.surveying.NoRecord.TheVariants as no_record

-- what a fault of ranges is as one of an event, and one of an event as one of a record
abbrev pub of_ranges : NoRanges → NoEvent
of_ranges (no_ranges.Unread v) = event.Unread v
of_ranges no_ranges.OutOfMemory = event.OutOfMemory

abbrev pub of_event : NoEvent → NoRecord
of_event event.OutOfMemory = no_record.OutOfMemory
of_event e = no_record.Event e

-- a value is at fault so, or memory lacks
abbrev pub OfValue : (NoValue → Type 0) → NoEvent → Type 0
OfValue P (event.Unread v) = P v
OfValue P event.NoPacketType = ⊥
OfValue P event.OutOfMemory = ⊤

-- an event is at fault so, or memory lacks
abbrev pub OrMemory : (NoEvent → Type 0) → NoEvent → Type 0
OrMemory P event.OutOfMemory = ⊤
OrMemory P e = P e

abbrev pub OfEvent : (NoEvent → Type 0) → NoRecord → Type 0
OfEvent P (no_record.Event e) = P e
OfEvent P no_record.OutOfMemory = ⊤
OfEvent P _ = ⊥

-- ---- packets

-- the number of a packet with this header h: it cannot be read, or is past 2^62 - 1 (RFC 9000,
-- section 17.1)
abbrev pub IsNumberFault : Option Json → Option Json → NoValue → Type 0
IsNumberFault h d v = (packets.number h d ≡ Err v) ⊎ ((v ≡ value.OutOfRange key.PacketNumber)
    × (n : ℕ) × (packets.number h d ≡ Ok n) × (in_range 0 max_packet_number n ≡ None))

-- its size: it cannot be read, or is none that a packet may have
abbrev pub IsSizeFault : Option Json → Option Json → NoValue → Type 0
IsSizeFault h d v = (packets.size h d ≡ Err v) ⊎ ((v ≡ value.OutOfRange key.Length)
    × (n : ℕ) × (packets.size h d ≡ Ok (Some n)) × (in_range 1 max_packet_size n ≡ None))

-- an ACK frame j
abbrev pub IsAckFault : Unit → Json → NoValue → Type 0
IsAckFault unit j v =
    (acks.ranges j ≡ Err v) ⊎ (acks.delay unit 0 j ≡ Err v) ⊎ (acks.ce_count j ≡ Err v)

-- one of these frames is such an ACK frame
abbrev pub IsFaultAmong : Unit → List Json → NoValue → Type 0
IsFaultAmong unit [] v = ⊥
IsFaultAmong unit (j ∷ js) v =
    ((is_ack (frames.type_of j) ≡ true) × IsAckFault unit j v) ⊎ IsFaultAmong unit js v

-- its frames
abbrev pub IsFrameFault : Unit → Option Json → NoValue → Type 0
IsFrameFault unit d v = (frames.frames d ≡ Err v)
    ⊎ ((js : List Json) × (frames.frames d ≡ Ok js) × IsFaultAmong unit js v)

-- a packet of a packet number space
abbrev pub IsPacketFault : Unit → Option Json → NoValue → Type 0
IsPacketFault unit d v = (s : Space) × (space_of (packets.header_of d) d ≡ Some s)
    × (IsNumberFault (packets.header_of d) d v ⊎ IsSizeFault (packets.header_of d) d v
    ⊎ IsFrameFault unit d v)

-- a packet that was declared lost, with this header h: its number, or it has no type, so that its
-- space is not known
abbrev pub IsLostFault : Option Json → Option Json → NoEvent → Type 0
IsLostFault h d (event.Unread v) = (s : Space) × (space_of h d ≡ Some s) × IsNumberFault h d v
IsLostFault h d event.NoPacketType = packets.type_of h d ≡ None
IsLostFault h d event.OutOfMemory = ⊥

-- one of the packets with these headers
abbrev pub IsLostAmong : List Json → NoEvent → Type 0
IsLostAmong [] e = ⊥
IsLostAmong (h ∷ hs) e = IsLostFault (Some h) None e ⊎ IsLostAmong hs e

-- a `packets_lost`: the list of them, or one of them
abbrev pub IsLossesFault : Option Json → NoEvent → Type 0
IsLossesFault d e = ((v : NoValue) × (e ≡ event.Unread v) × (losses.packets d ≡ Err v))
    ⊎ ((hs : List Json) × (losses.packets d ≡ Ok hs) × IsLostAmong hs e)

-- ---- reports and parameters

abbrev pub IsReportFault : Unit → Option Json → NoValue → Type 0
IsReportFault unit d v = (metrics.rtts unit d ≡ Err v) ⊎ (metrics.sizes d ≡ Err v)
    ⊎ (whole_in key.PtoCount d ≡ Err v)

abbrev pub IsRecoveryFault : Unit → Option Json → NoValue → Type 0
IsRecoveryFault unit d v =
    (duration_in key.InitialRtt unit d ≡ Err v) ⊎ (whole_in key.MaxDatagramSize d ≡ Err v)
    ⊎ (whole_in key.InitialCongestionWindow d ≡ Err v)
    ⊎ (whole_in key.ReorderingThreshold d ≡ Err v)
    ⊎ (duration_in key.TimeThreshold Milliseconds d ≡ Err v)

-- of the peer alone
abbrev pub IsParametersFault : Unit → Option Json → NoValue → Type 0
IsParametersFault unit d v = (parameters.is_of_peer d ≡ true)
    × ((parameters.max_ack_delay unit d ≡ Err v) ⊎ (whole_in key.AckDelayExponent d ≡ Err v))

-- ---- events

-- an event of this name, with this data
abbrev pub IsEventFault : Unit → EventName → Option Json → NoEvent → Type 0
IsEventFault unit name.PacketSent d e = OfValue (IsPacketFault unit d) e
IsEventFault unit name.PacketReceived d e = OfValue (IsPacketFault unit d) e
IsEventFault unit name.PacketLost d e = IsLostFault (packets.header_of d) d e
IsEventFault unit name.MetricsUpdated d e = OfValue (IsReportFault unit d) e
IsEventFault unit name.RecoveryParametersSet d e = OfValue (IsRecoveryFault unit d) e
IsEventFault unit name.ParametersSet d e = OfValue (IsParametersFault unit d) e
IsEventFault unit _ d e = ⊥

-- no size of a packet that was sent: it may be guessed by its frames, or not
abbrev pub HasNoSize : EventName → Option Json → Type 0
HasNoSize name.PacketSent d = packets.size (packets.header_of d) d ≡ Ok None
HasNoSize _ d = ⊥

-- a packet that was sent has none
abbrev pub IsUnsized : Said → Type 0
IsUnsized (said.Sent p) = p.size ≡ None
IsUnsized _ = ⊥

-- an event, and the size that it does not say
abbrev pub IsOneFault : Unit → EventName → Option Json → NoEvent → Type 0
IsOneFault unit n d e = IsEventFault unit n d e ⊎ HasNoSize n d

abbrev pub IsFault : Unit → EventName → Option Json → NoEvent → Type 0
IsFault unit name.PacketsLost d e = IsLossesFault d e
IsFault unit n d e = IsOneFault unit n d e

abbrev pub IsFaultOf : Head → Json → Option EventName → NoEvent → Type 0
IsFaultOf head j None e = ⊥
IsFaultOf head j (Some n) e = IsFault head.unit n (data_of head.fields j) e

-- ---- records

-- the time of a record whose value is j
abbrev pub IsTimeFault : Head → Json → NoRecord → Type 0
IsTimeFault head j (no_record.Time t) = event_of head.fields head.unit j ≡ Err t
IsTimeFault head j no_record.OutOfMemory = ⊤
IsTimeFault head j _ = ⊥

-- its time, or an event of the connection that is converted
abbrev pub IsRecordFault : Head → Numbering → Json → NoRecord → Type 0
IsRecordFault head c j (no_record.Event e) =
    (found : Option EventHead) × (event_of head.fields head.unit j ≡ Ok found)
    × IsFaultOf head j (chosen_only head j c (name_of found)) e
IsRecordFault head c j fault = IsTimeFault head j fault

-- a text: it is not JSON, which is UTF-8 (RFC 8259, section 8.1), or the record that it is
abbrev pub IsTextFault : Head → Numbering → List ℕ → NoRecord → Type 0
IsTextFault head c text no_record.NotJson = (IsUtf8 text → ⊥) ⊎ (document text ≡ None)
IsTextFault head c text no_record.OutOfMemory = ⊤
IsTextFault head c text fault =
    (j : Json) × (document text ≡ Some j) × IsRecordFault head c j fault

-- a record is at fault so, or a line cannot be written
abbrev pub OfRecord : (NoRecord → Type 0) → NoMore → Type 0
OfRecord P (more.Record fault) = P fault
OfRecord P (more.Line _) = ⊤

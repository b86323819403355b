-- The frames of a packet, by `QuicFrame` of draft-ietf-quic-qlog-quic-events, and what they make of
-- it.
use Rattle.std.specs.Prelude.{◌||◌, ℕ, Bool, true, false, List, [], ◌∷◌, codes, is_some, Option}
use Rattle.std.specs.Prelude.{Some, None, Result, Ok, Err, ok_or, option_map, if◌then◌else◌}
use Rattle.std.specs.List.{list_all, list_any}
use Rattle.std.specs.Option.{option_or, unwrap_or}
use Rattle.json.specs.Json.{Json, Items, no_items, item}
use Rattle.json.specs.Find.{get, as_array}
use Rattle.qa_qlog.specs.declared.frames.Content.{Content}
use Rattle.qa_qlog.specs.declared.frames.FrameType.{FrameType}
use Rattle.qa_qlog.specs.declared.frames.FrameType.TheVariants as type
use Rattle.qa_qlog.specs.declared.keys.Key.{Key}
use Rattle.qa_qlog.specs.declared.keys.Key.TheVariants.{Frames}
use Rattle.qa_qlog.specs.declared.keys.NoValue.{NoValue}
use Rattle.qa_qlog.specs.declared.keys.NoValue.TheVariants.{OtherKind}
use Rattle.qa_qlog.specs.Heads.{◌>>=◌}
use Rattle.qa_qlog.specs.Names.{type_in}
use Rattle.qa_qlog.specs.Records.{or_else}
use Rattle.qa_qlog.specs.Says.{says, is_object, key_at, text_at}

-- ---- types

-- frames that do not make a packet ack-eliciting (RFC 9002, section 2)
abbrev pub quiet : List (List ℕ × FrameType)
quiet =
    (codes "ack", type.Ack)
    ∷ (codes "ack_ecn", type.Ack)
    ∷ (codes "padding", type.Padding)
    ∷ (codes "connection_close", type.ConnectionClose)
    ∷ (codes "application_close", type.ApplicationClose)
    ∷ []

abbrev pub eliciting : List (List ℕ × FrameType)
eliciting =
    (codes "ping", type.Ping)
    ∷ (codes "crypto", type.Crypto)
    ∷ (codes "stream", type.Stream)
    ∷ (codes "handshake_done", type.HandshakeDone)
    ∷ (codes "ack_frequency", type.AckFrequency)
    ∷ []

abbrev pub type_named : List ℕ → FrameType
type_named text = unwrap_or (option_or (type_in quiet text) (type_in eliciting text)) type.Other

-- the first drafts have no `type` but `frame_type`
abbrev pub type_at : Json → Option Json
type_at j = or_else (get (codes "frame_type") j) (get (codes "type") j)

abbrev pub type_of : Json → FrameType
type_of j = type_named (unwrap_or (text_at (type_at j)) [])

-- ---- frames

abbrev pub listed : Items → List Json
listed no_items = []
listed (item j js) = j ∷ listed js

abbrev pub objects : Key → List Json → Result (List Json) NoValue
objects key js = if list_all is_object js then Ok js else Err (OtherKind key)

-- the items of the list at a key, each an object
abbrev pub objects_in : Key → Json → Result (List Json) NoValue
objects_in key j = ok_or (option_map listed (as_array j)) (OtherKind key) >>= objects key

abbrev pub frames_at : Option Json → Result (List Json) NoValue
frames_at None = Ok []
frames_at (Some j) = if says j then objects_in Frames j else Ok []

-- the frames of a packet with these data, each an object
abbrev pub frames : Option Json → Result (List Json) NoValue
frames d = frames_at (key_at (codes "frames") d)

abbrev pub has_frames : Option Json → Bool
has_frames d = is_some (key_at (codes "frames") d)

-- ---- what they make of a packet

abbrev pub is_eliciting : FrameType → Bool
is_eliciting type.Ack = false
is_eliciting type.Padding = false
is_eliciting type.ConnectionClose = false
is_eliciting type.ApplicationClose = false
is_eliciting _ = true

abbrev pub is_ack : FrameType → Bool
is_ack type.Ack = true
is_ack _ = false

abbrev pub is_padding : FrameType → Bool
is_padding type.Padding = true
is_padding _ = false

abbrev pub is_ping : FrameType → Bool
is_ping type.Ping = true
is_ping _ = false

abbrev pub is_crypto : FrameType → Bool
is_crypto type.Crypto = true
is_crypto _ = false

abbrev pub is_close : FrameType → Bool
is_close type.ConnectionClose = true
is_close _ = false

abbrev pub is_handshake_done : FrameType → Bool
is_handshake_done type.HandshakeDone = true
is_handshake_done _ = false

abbrev pub is_ack_frequency : FrameType → Bool
is_ack_frequency type.AckFrequency = true
is_ack_frequency _ = false

-- what a packet is with frames of these types
abbrev pub content : List FrameType → Content
content types = record {
  is_eliciting = list_any is_eliciting types;
  has_ack = list_any is_ack types;
  has_padding = list_any is_padding types;
  has_ping = list_any is_ping types;
  has_crypto = list_any is_crypto types;
  closes = list_any is_close types;
  has_handshake_done = list_any is_handshake_done types;
  has_ack_frequency = list_any is_ack_frequency types;
}

-- an ack-eliciting packet, or one with PADDING, counts to the bytes in flight (RFC 9002, section 2)
abbrev pub is_in_flight : Content → Bool
is_in_flight content = content.is_eliciting || content.has_padding

-- ---- bodies

-- what a packet is with the frames of both
abbrev pub joined : Content → Content → Content
joined a b = record {
  is_eliciting = a.is_eliciting || b.is_eliciting;
  has_ack = a.has_ack || b.has_ack;
  has_padding = a.has_padding || b.has_padding;
  has_ping = a.has_ping || b.has_ping;
  has_crypto = a.has_crypto || b.has_crypto;
  closes = a.closes || b.closes;
  has_handshake_done = a.has_handshake_done || b.has_handshake_done;
  has_ack_frequency = a.has_ack_frequency || b.has_ack_frequency;
}

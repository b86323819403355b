-- What a record has of the parts of a packet, for logs that do not have its size: `PacketHeader`,
-- `CryptoFrame` and `StreamFrame` of draft-ietf-quic-qlog-quic-events, and `RawInfo` of
-- draft-ietf-quic-qlog-main-schema.
use Rattle.std.specs.Prelude.{◌&&◌, ℕ, Bool, false, not, List, codes, Option, Some, None}
use Rattle.std.specs.Prelude.{Result, option_map, if◌then◌else◌}
use Rattle.json.specs.Json.{Json}
use Rattle.json.specs.Find.{get, as_bool}
use Rattle.qa_qlog.specs.declared.keys.Key.TheVariants as key
use Rattle.qa_qlog.specs.declared.keys.NoValue.{NoValue}
use Rattle.qa_qlog.specs.Numbers.{optional_at, whole_or_zero}
use Rattle.qa_qlog.specs.Packets.{in_header}
use Rattle.qa_qlog.specs.Records.{written}
use Rattle.qa_qlog.specs.Says.{is_object, says_at, key_at, text_at}

-- ---- packets

abbrev pub payload : Option Json → Result (Option ℕ) NoValue
payload d = optional_at key.PayloadLength (key_at (codes "payload_length") (key_at (codes "raw") d))

abbrev pub header : Option Json → Option Json → Result (Option ℕ) NoValue
header h d = optional_at key.HeaderLength (in_header h d (codes "length"))

abbrev pub destination : Option Json → Option Json → Option (List ℕ)
destination h d = text_at (in_header h d (codes "dcid"))

abbrev pub source : Option Json → Option Json → Option (List ℕ)
source h d = text_at (in_header h d (codes "scid"))

-- what an object has at a key; another value is it itself
abbrev pub inside : List ℕ → Option Json → Option Json
inside key None = None
inside key (Some j) = if is_object j then get key j else Some j

-- drafts have it as a string, or as that of `data` in the object `raw`
abbrev pub token : Option Json → Option Json → Option (List ℕ)
token h d =
    text_at (inside (codes "data") (inside (codes "raw") (in_header h d (codes "token"))))

-- ---- frames

abbrev pub frame_length : Json → Result (Option ℕ) NoValue
frame_length j = optional_at key.FrameLength (get (codes "length") j)

abbrev pub data_length : Json → Result (Option ℕ) NoValue
data_length j = optional_at key.PayloadLength (get (codes "payload_length") j)

abbrev pub offset : Json → Result ℕ NoValue
offset j = whole_or_zero key.Offset (get (codes "offset") j)

abbrev pub stream_id : Json → Option (List ℕ)
stream_id j = option_map written (get (codes "stream_id") j)

abbrev pub is_no : Option Bool → Bool
is_no None = false
is_no (Some b) = not b

abbrev pub is_false : Option Json → Bool
is_false None = false
is_false (Some j) = is_no (as_bool j)

-- a STREAM frame without a length goes on to the end of its packet
abbrev pub is_open : Json → Bool
is_open j =
    is_false (get (codes "explicit_length") j)
    && not (says_at (get (codes "payload_length") j))

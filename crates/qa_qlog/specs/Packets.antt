-- What a record says of a packet, by its data d and the object h of its header: `PacketHeader` of
-- draft-ietf-quic-qlog-quic-events and `RawInfo` of draft-ietf-quic-qlog-main-schema. The first
-- drafts (draft-marx-qlog-event-definitions-quic-h3) have keys of the header beside it, and other
-- names for them.
use Rattle.std.specs.Prelude.{◌||◌, ℕ, Bool, List, [], codes, Option, Some, None, Result}
use Rattle.std.specs.Prelude.{if◌then◌else◌}
use Rattle.std.specs.Option.{option_or, unwrap_or}
use Rattle.std.specs.Str.{str_eq_ignore_ascii_case as is_named}
use Rattle.json.specs.Json.{Json}
use Rattle.qa_base.specs.declared.space.Space.{Space}
use Rattle.qa_base.specs.declared.space.Space.TheVariants as space
use Rattle.qa_qlog.specs.declared.keys.Key.TheVariants.{PacketNumber, Length}
use Rattle.qa_qlog.specs.declared.keys.NoValue.{NoValue}
use Rattle.qa_qlog.specs.declared.packets.PacketType.{PacketType}
use Rattle.qa_qlog.specs.declared.packets.PacketType.TheVariants as type
use Rattle.qa_qlog.specs.Numbers.{optional_at, whole_at}
use Rattle.qa_qlog.specs.Records.{or_else, object_only}
use Rattle.qa_qlog.specs.Says.{says_at, is_given, key_at, text_at}

-- ---- types

-- drafts have `0RTT` and `1RTT`, and stacks write them with a hyphen or an underscore as well
abbrev pub is_zero_rtt : List ℕ → Bool
is_zero_rtt text =
    is_named text (codes "0rtt") || (is_named text (codes "0-rtt") || is_named text (codes "0_rtt"))

abbrev pub is_one_rtt : List ℕ → Bool
is_one_rtt text =
    is_named text (codes "1rtt") || (is_named text (codes "1-rtt") || is_named text (codes "1_rtt"))

abbrev pub type_named : List ℕ → PacketType
type_named text =
    if is_named text (codes "initial") then type.Initial
    else if is_named text (codes "handshake") then type.Handshake
    else if is_zero_rtt text then type.ZeroRtt
    else if is_one_rtt text then type.OneRtt
    else if is_named text (codes "retry") then type.Retry
    else type.Other

-- packets of 0-RTT and 1-RTT have one space (RFC 9000, section 12.3)
abbrev pub space_of : PacketType → Option Space
space_of type.Initial = Some space.Initial
space_of type.Handshake = Some space.Handshake
space_of type.ZeroRtt = Some space.App
space_of type.OneRtt = Some space.App
space_of type.Retry = None
space_of type.Other = None

-- ---- keys

abbrev pub header_of : Option Json → Option Json
header_of d = object_only (key_at (codes "header") d)

-- what the header says at a key, or without a header the data
abbrev pub in_header : Option Json → Option Json → List ℕ → Option Json
in_header h d key = key_at key (option_or h d)

-- ---- the packet

abbrev pub type_at : Option Json → Option Json → Option Json
type_at h d = or_else (in_header h d (codes "packet_type"))
    (or_else (key_at (codes "packet_type") d) (key_at (codes "type") d))

abbrev pub type_in : Option Json → Option PacketType
type_in o = if says_at o then Some (type_named (unwrap_or (text_at o) [])) else None

abbrev pub type_of : Option Json → Option Json → Option PacketType
type_of h d = type_in (type_at h d)

-- the first that is given
abbrev pub given : Option Json → Option Json → Option Json
given o p = if is_given o then o else p

abbrev pub number : Option Json → Option Json → Result ℕ NoValue
number h d =
    whole_at PacketNumber
    (given (in_header h d (codes "packet_number")) (key_at (codes "packet_number") d))

abbrev pub length_at : Option Json → Option Json
length_at d = key_at (codes "length") (key_at (codes "raw") d)

-- a size of 0 counts only if no other is said
abbrev pub size_at : Option Json → Option Json → Option Json
size_at h d = or_else (length_at d) (or_else (in_header h d (codes "packet_size"))
    (or_else (key_at (codes "packet_size") d) (length_at d)))

abbrev pub size : Option Json → Option Json → Result (Option ℕ) NoValue
size h d = optional_at Length (size_at h d)

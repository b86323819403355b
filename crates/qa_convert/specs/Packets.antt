-- What is kept of a packet, by the data d of its record.
use Rattle.std.specs.Prelude.{◌≡◌, ℕ, Bool, true, false, List, [], ◌∷◌, ◌++◌, map, nat_lt, Option}
use Rattle.std.specs.Prelude.{Some, None, Ok, option_and_then}
use Rattle.json.specs.Json.{Json}
use Rattle.qa_base.specs.declared.space.Space.{Space}
use Rattle.qa_qlog.specs.Acks as acks
use Rattle.qa_qlog.specs.Frames as frames
use Rattle.qa_qlog.specs.Losses as losses
use Rattle.qa_qlog.specs.Packets as packets
use Rattle.qa_qlog.specs.declared.frames.Content.{Content}
use Rattle.qa_qlog.specs.declared.frames.FrameType.{FrameType}
use Rattle.qa_qlog.specs.declared.frames.FrameType.TheVariants as type
use Rattle.qa_qlog.specs.declared.times.Unit.{Unit}
use Rattle.qa_convert.specs.declared.packet.LoggedAck.{LoggedAck}
use Rattle.qa_convert.specs.declared.packet.LoggedPacket.{LoggedPacket}

-- ---- ACK frames

-- what is kept of an ACK frame is what it says
pub record IsAckOf (unit : Unit) (j : Json) (ack : LoggedAck) : Type 0 where
  pub ranges : acks.ranges j ≡ Ok ack.ranges
  pub delay : acks.delay unit 0 j ≡ Ok ack.delay
  pub marks : (n : ℕ) × (acks.ce_count j ≡ Ok n) × (ack.has_marks ≡ nat_lt 0 n)

abbrev pub is_ack : FrameType → Bool
is_ack type.Ack = true
is_ack _ = false

-- what is kept of a frame: an ACK frame, and nothing of others
abbrev pub KeepsIf : Bool → Unit → Json → List LoggedAck → Type 0
KeepsIf true unit j kept = (ack : LoggedAck) × (kept ≡ ack ∷ []) × IsAckOf unit j ack
KeepsIf false unit j kept = kept ≡ []

abbrev pub Keeps : Unit → Json → List LoggedAck → Type 0
Keeps unit j kept = KeepsIf (is_ack (frames.type_of j)) unit j kept

-- what is kept of frames, in their order
abbrev pub AreAcksOf : Unit → List Json → List LoggedAck → Type 0
AreAcksOf unit [] kept = kept ≡ []
AreAcksOf unit (j ∷ js) kept =
    (first : List LoggedAck) × (rest : List LoggedAck) × (kept ≡ first ++ rest)
    × Keeps unit j first × AreAcksOf unit js rest

-- ---- a packet

-- its packet number space
abbrev pub space_of : Option Json → Option Json → Option Space
space_of h d = option_and_then packets.space_of (packets.type_of h d)

-- what the frames of a packet make of it
abbrev pub IsContentOf : Option Json → Content → Type 0
IsContentOf d content =
    (js : List Json) × (frames.frames d ≡ Ok js)
    × (content ≡ frames.content (map frames.type_of js))

-- what is kept of a packet is what its record says
pub record IsPacketOf (unit : Unit) (d : Option Json) (p : LoggedPacket) : Type 0 where
  pub space : space_of (packets.header_of d) d ≡ Some p.space
  pub number : packets.number (packets.header_of d) d ≡ Ok p.number
  pub size : packets.size (packets.header_of d) d ≡ Ok p.size
  pub read : p.is_size_guessed ≡ false
  pub room : p.keeps_room ≡ false
  pub probe : p.is_probe ≡ losses.is_probe d
  pub content : IsContentOf d p.content
  pub acks : (js : List Json) × (frames.frames d ≡ Ok js) × AreAcksOf unit js p.acks.items

-- a packet that has a space is kept
abbrev pub GivesPacket : Unit → Option Json → Option LoggedPacket → Type 0
GivesPacket unit d None = space_of (packets.header_of d) d ≡ None
GivesPacket unit d (Some p) = IsPacketOf unit d p

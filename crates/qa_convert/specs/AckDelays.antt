-- The lines of the acknowledgments that packets brought: each has the space and the ranges of an
-- ACK frame, and its delay in the unit of the trace.
use Rattle.std.specs.Prelude.{◌≡◌, ◌⊎◌, ◌++◌, ◌*◌, ◌-◌, ◌^◌, ◌&&◌, ℕ, Bool, true, false, List}
use Rattle.std.specs.Prelude.{[], ◌∷◌, if◌then◌else◌, min, take}
use Rattle.std.specs.List.{AllZip, filter}
use Rattle.qa_base.specs.declared.event.Ack.{Ack}
use Rattle.qa_base.specs.declared.space.Space.{Space}
use Rattle.qa_base.specs.declared.space.Space.TheVariants.{Initial, Handshake}
use Rattle.qa_base.specs.values.Events.{has_ranges}
use Rattle.qa_base.specs.values.PerSpace.{of_space}
use Rattle.qa_convert.specs.Marks.{Marks}
use Rattle.qa_convert.specs.Outputs.{in_unit}
use Rattle.qa_convert.specs.States.{stated}
use Rattle.qa_convert.specs.Telling.{AckLine, Told, ack_line}
use Rattle.qa_convert.specs.declared.conversion.Conversion.{Conversion}
use Rattle.qa_convert.specs.declared.decoding.Decoding.{Decoding}
use Rattle.qa_convert.specs.declared.dialects.Limited.{Limited}
use Rattle.qa_convert.specs.declared.dialects.Limited.TheVariants.{ByState}
use Rattle.qa_convert.specs.declared.event.LoggedEvent.{LoggedEvent}
use Rattle.qa_convert.specs.declared.groups.About.{About}
use Rattle.qa_convert.specs.declared.groups.About.TheVariants as about
use Rattle.qa_convert.specs.declared.handshake.Keys.{Keys}
use Rattle.qa_convert.specs.declared.packet.LoggedAck.{LoggedAck}
use Rattle.qa_convert.specs.declared.packet.LoggedPacket.{LoggedPacket}

-- ---- the delay of one frame

-- a delay that is as on the wire, multiplied as the peer's exponent says, which is at most 20 (RFC
-- 9000, sections 18.2 and 19.3)
abbrev pub shifted : ℕ → ℕ → ℕ
shifted exponent delay = min (delay * 2 ^ min exponent 20) (2 ^ 64 - 1)

-- what a delay in the log means, in nanoseconds
abbrev pub meant : Decoding → ℕ → ℕ
meant d delay = if d.is_encoded then shifted d.exponent delay else delay

-- the delay of an ACK frame in nanoseconds: 0 in a space in which the sender subtracts none
abbrev pub decoded : Decoding → Space → LoggedAck → ℕ
decoded d s a = if of_space s d.subtracts then meant d a.delay else 0

-- a delay in nanoseconds is that of the frame, unless times are cut to whole milliseconds: then the
-- reports may show another one
abbrev pub IsDelayOf : Decoding → Space → LoggedAck → ℕ → Type 0
IsDelayOf d s a delay = d.has_cut_times ≡ false → delay ≡ decoded d s a

-- by what the ACK frames of a log are read: its dialect, the peer's exponent, the unit of the
-- trace, and the last state
abbrev pub decoding_of : Conversion → Decoding
decoding_of c = record {
  subtracts = c.terms.dialect.subtracts_delay;
  is_encoded = c.terms.dialect.delay_is_encoded;
  exponent = c.known.delay_exponent;
  unit = c.writing.output.unit;
  has_cut_times = c.known.has_cut_times;
  limited = c.terms.dialect.limited;
  is_limited = c.is_app_limited;
}

-- the log says by itself that the sender had not used its window (RFC 9002, section 7.8)
abbrev pub is_by_state : Limited → Bool
is_by_state ByState = true
is_by_state _ = false

-- ---- the lines of frames

-- a line says the space, the ranges and the delay of an ACK frame; the delay may be another one if
-- times are cut; that the window was not used is said to be a guess, unless the state says it
pub record IsLineOfAck (d : Decoding) (s : Space) (a : LoggedAck) (l : AckLine) : Type 0 where
  pub space : l.space ≡ s
  pub ranges : l.ranges ≡ a.ranges
  pub delay : d.has_cut_times ≡ false → l.delay ≡ in_unit d.unit (decoded d s a)
  pub limited : (is_by_state d.limited && d.is_limited) ≡ false → l.says_limited ≡ true

-- the frames that name a packet: others have no line
abbrev pub naming : List LoggedAck → List LoggedAck
naming acks = filter (λ a. has_ranges a.ranges) acks

-- ACK frames of a space came, and the lines of those that name a packet were written, one for one
-- and in their order
pub record AddsAcks (d : Decoding) (s : Space) (acks : List LoggedAck) (before after : Told)
    : Type 0 where
  pub lines : List AckLine
  pub are : AllZip (IsLineOfAck d s) (naming acks) lines
  pub told : after.acks ≡ before.acks ++ lines

-- what is written of an acknowledgment: there is no line of one that names no packet
abbrev pub lines_of : Marks → Ack → List AckLine
lines_of m a = if has_ranges a.ranges then ack_line m a ∷ [] else []

-- ---- the lines of packets and groups

-- the keys of a space are gone
abbrev pub is_gone : Keys → Space → Bool
is_gone keys Initial = keys.initial_is_gone
is_gone keys Handshake = keys.handshake_is_gone
is_gone keys _ = false

-- all ACK frames of a packet have their lines, or none has one, since the keys of the space are
-- gone by then
abbrev pub TellsAcks : Decoding → Keys → LoggedPacket → Told → Told → Type 0
TellsAcks d keys p before after =
    AddsAcks d p.space p.acks.items before after
    ⊎ ((is_gone keys p.space ≡ true) × (after.acks ≡ before.acks))

-- all of them have their lines, or none has one
abbrev pub AddsAllOrNone : Decoding → LoggedPacket → Told → Told → Type 0
AddsAllOrNone d p before after =
    AddsAcks d p.space p.acks.items before after ⊎ (after.acks ≡ before.acks)

-- what a group adds to the lines of acknowledgments: only a packet that came adds any, by the last
-- state before it, or by one that is said beside it
abbrev pub Answers : Decoding → About → List LoggedEvent → Told → Told → Type 0
Answers d (about.Received p ls) beside before after =
    (n : ℕ) × AddsAllOrNone (stated (take n beside) d) p.packet before after
Answers d _ beside before after = after.acks ≡ before.acks

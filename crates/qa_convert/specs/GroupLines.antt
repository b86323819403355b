-- What the lines of groups tell: of packets that were sent, of acknowledgments that came, of
-- packets that were declared lost, of timers that expired, and of keys.
use Rattle.std.specs.Prelude.{◌≡◌, ◌⊎◌, ◌++◌, ℕ, List, [], ◌∷◌, flat_map, take}
use Rattle.std.specs.List.{AllZip}
use Rattle.qa_convert.specs.AckDelays.{IsLineOfAck, naming}
use Rattle.qa_convert.specs.Losing.{NamesOnly, lost_in, packets_of}
use Rattle.qa_convert.specs.KeyLines.{TellsKeys, keys_after}
use Rattle.qa_convert.specs.Rules.{Rules}
use Rattle.qa_convert.specs.States.{stated, stated_in}
use Rattle.qa_convert.specs.Timers.{AddsTimers, expired_of}
use Rattle.qa_convert.specs.Telling.{AckLine, AreLinesOf, SentLine, Told, sent_of, sized}
use Rattle.qa_convert.specs.declared.decoding.Decoding.{Decoding}
use Rattle.qa_convert.specs.declared.event.LoggedEvent.{LoggedEvent}
use Rattle.qa_convert.specs.declared.event.LostPacket.{LostPacket}
use Rattle.qa_convert.specs.declared.groups.About.{About}
use Rattle.qa_convert.specs.declared.groups.About.TheVariants as about
use Rattle.qa_convert.specs.declared.groups.Group.{Group}
use Rattle.qa_convert.specs.declared.packet.LoggedPacket.{LoggedPacket}

-- ---- packets that were sent

-- these lines were written of the packets that were sent, one for one and in their order, and no
-- others
abbrev pub TellsSent : Rules → List Group → Told → Told → Type 0
TellsSent r gs before after =
    (lines : List SentLine) × (after.sent ≡ before.sent ++ lines)
    × AreLinesOf r.settles r.by_growth (sized (sent_of gs)) lines

-- ---- acknowledgments that came

-- the lines of the ACK frames of a packet, in their order, each with the space, the ranges and the
-- delay: those of all frames that name packets, or none, since the keys of its space are gone
abbrev pub AreOfPacket : Decoding → LoggedPacket → List AckLine → Type 0
AreOfPacket d p lines =
    (lines ≡ []) ⊎ AllZip (IsLineOfAck d p.space) (naming p.acks.items) lines

-- those of a group: a packet that came has some, by the last state before it, or by one that is
-- said beside it
abbrev pub AreOfGroup : Decoding → About → List LoggedEvent → List AckLine → Type 0
AreOfGroup d (about.Received p ls) beside lines =
    (n : ℕ) × AreOfPacket (stated (take n beside) d) p.packet lines
AreOfGroup d _ beside lines = lines ≡ []

-- those of groups, in their order
abbrev pub AreAcked : Decoding → List Group → List AckLine → Type 0
AreAcked d [] lines = lines ≡ []
AreAcked d (g ∷ gs) lines =
    (first : List AckLine) × (more : List AckLine) × (lines ≡ first ++ more)
    × AreOfGroup d g.about g.beside.items first
    × AreAcked (stated_in g.about g.beside.items d) gs more

-- these lines were written of acknowledgments, and no others
abbrev pub TellsAcks : Decoding → List Group → Told → Told → Type 0
TellsAcks d gs before after =
    (lines : List AckLine) × (after.acks ≡ before.acks ++ lines) × AreAcked d gs lines

-- ---- packets that were declared lost

-- by what a group is about
abbrev pub lost_in_front : About → List LostPacket
lost_in_front (about.Received p ls) = packets_of ls.items
lost_in_front (about.Lost ls) = packets_of ls.items
lost_in_front _ = []

-- or beside it
abbrev pub lost_by : Group → List LostPacket
lost_by g = lost_in_front g.about ++ lost_in g.beside.items

abbrev pub lost_of : List Group → List LostPacket
lost_of gs = flat_map lost_by gs

-- ---- all of them

pub record TellsOf (r : Rules) (gs : List Group) (before after : Told) : Type 0 where
  pub sent : TellsSent r gs before after
  pub acks : TellsAcks r.decoding gs before after
  pub lost : NamesOnly (lost_of gs) before after
  pub timers : AddsTimers (expired_of gs) before after
  pub keys : TellsKeys (keys_after gs r.keys) before after

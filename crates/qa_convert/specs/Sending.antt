-- Packets that are sent, with the sizes that they have by now.
use Rattle.std.specs.Prelude.{◌≡◌, ◌||◌, Bool, true, false, List, [], ◌∷◌, Some}
use Rattle.qa_base.specs.declared.space.Space.{Space}
use Rattle.qa_qlog.specs.Frames.{is_in_flight}
use Rattle.qa_convert.specs.Telling.{AreRetired, Retired, SentLine, Told, may_settle, with_gone}
use Rattle.qa_convert.specs.Telling.{with_sent}
use Rattle.qa_convert.specs.declared.packet.LoggedPacket.{LoggedPacket}
use Rattle.qa_convert.specs.declared.sending.Outgoing.{Outgoing}

-- the line of a packet, which says or does not say that the size is a guess; that a leave is one,
-- it says
abbrev pub line_of : Outgoing → Bool → SentLine
line_of o is_size_guessed = record {
  space = o.packet.space;
  number = o.packet.number;
  size = o.size;
  eliciting = o.packet.content.is_eliciting;
  in_flight = is_in_flight o.packet.content || o.is_padded;
  is_size_guessed = is_size_guessed;
  says_leave = true;
}

-- a line is that of a packet, and says that the size is a guess if it is
pub record IsWrittenOf (o : Outgoing) (l : SentLine) : Type 0 where
  pub line : l ≡ line_of o l.is_size_guessed
  pub guess : o.is_size_guessed ≡ true → l.is_size_guessed ≡ true

-- each of them, one for one
abbrev pub AreWrittenOf : List Outgoing → List SentLine → Type 0
AreWrittenOf [] ls = ls ≡ []
AreWrittenOf (o ∷ os) [] = ⊥
AreWrittenOf (o ∷ os) (l ∷ ls) = IsWrittenOf o l × AreWrittenOf os ls

-- the lines of packets were written, and perhaps that keys are gone, of which the log told
pub record Wrote (retired : Retired) (os : List Outgoing) (before after : Told) : Type 0 where
  pub lines : List SentLine
  pub are : AreWrittenOf os lines
  pub spaces : List Space
  pub gone : AreRetired retired spaces
  pub told : after ≡ with_gone (with_sent before lines) spaces

-- a packet is that of the log; its size is the log's unless the growth of the bytes in flight may
-- show another; unless all sizes are taken by that growth, a size that was guessed is a guess until
-- another is taken
pub record IsOf (settles by_growth : Bool) (p : LoggedPacket) (o : Outgoing) : Type 0 where
  pub packet : o.packet ≡ p
  pub guessed : o.is_size_guessed ≡ true → p.is_size_guessed ≡ true
  pub size : may_settle settles by_growth p ≡ false → Some o.size ≡ p.size
  pub padded : may_settle settles by_growth p ≡ false → o.is_padded ≡ false
  pub unsettled : by_growth ≡ false → o.is_size_guessed ≡ true → Some o.size ≡ p.size
  pub guess : by_growth ≡ false → p.is_size_guessed ≡ true → Some o.size ≡ p.size
      → o.is_size_guessed ≡ true

-- each of them, one for one
abbrev pub AreOf : Bool → Bool → List LoggedPacket → List Outgoing → Type 0
AreOf settles by_growth [] os = os ≡ []
AreOf settles by_growth (p ∷ ps) [] = ⊥
AreOf settles by_growth (p ∷ ps) (o ∷ os) =
    IsOf settles by_growth p o × AreOf settles by_growth ps os

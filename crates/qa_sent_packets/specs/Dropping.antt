-- The first packets that are kept, which are dropped or set aside.
use Rattle.std.specs.Prelude.{◌≡◌, ◌+◌, ◌||◌, Bool, true, false, List, [], ◌∷◌, ◌++◌, filter}
use Rattle.std.specs.Prelude.{length}
use Rattle.std.specs.List.{AllByRecursion}
use Rattle.qa_base.specs.declared.space.Space.{Space}
use Rattle.qa_base.specs.values.PerSpace.{of_space}
use Rattle.qa_sent_packets.specs.Fates.{is_bare, is_closed, is_open_in}
use Rattle.qa_sent_packets.specs.Held.{Held}
use Rattle.qa_sent_packets.specs.declared.packet.SentPacket.{SentPacket}

-- there is one, and it is neither open nor owed
abbrev pub is_first_closed : List SentPacket → Bool
is_first_closed [] = false
is_first_closed (p ∷ ps) = is_closed p

-- it is dropped, or set aside
abbrev pub is_shed : SentPacket → Bool
is_shed p = is_closed p || is_bare p

-- there is one that is
abbrev pub is_first_shed : List SentPacket → Bool
is_first_shed [] = false
is_first_shed (p ∷ ps) = is_shed p

-- the first packets leave the queue: those that are closed are dropped, and those that are bare are
-- set aside in their spaces
pub record Sheds (old new : Held) : Type 0 where
  pub front : List SentPacket
  pub parts : old.packets ≡ front ++ new.packets
  pub place : new.dropped ≡ old.dropped + length front
  pub settled : AllByRecursion (λ p. is_shed p ≡ true) front
  pub aside : (s : Space) → of_space s new.strays
      ≡ of_space s old.strays ++ filter (is_open_in s) front

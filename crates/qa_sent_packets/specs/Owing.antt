-- Where the packets stand that are owed, and which numbers they have.
use Rattle.std.specs.Prelude.{◌≡◌, ◌≤◌, ◌<◌, ℕ, false, List, [], ◌∷◌, drop, length, take, Option}
use Rattle.std.specs.Prelude.{Some, None}
use Rattle.std.specs.List.{AllByRecursion}
use Rattle.qa_base.specs.declared.space.Space.{Space}
use Rattle.qa_sent_packets.specs.Fates.{is_owed}
use Rattle.qa_sent_packets.specs.declared.packet.SentPacket.{SentPacket}

-- none of these is owed
abbrev pub NoneOwed : List SentPacket → Type 0
NoneOwed ps = AllByRecursion (λ p. is_owed p.fate ≡ false) ps

-- outside of what stands between these two indexes none is owed
pub record IsOwedPart (from to : ℕ) (ps : List SentPacket) : Type 0 where
  pub order : from ≤ to
  pub within : to ≤ length ps
  pub before : NoneOwed (take from ps)
  pub behind : NoneOwed (drop to ps)

-- each number is below those behind it
abbrev pub AreRising : List ℕ → Type 0
AreRising [] = Unit {0}
AreRising (n ∷ ns) = AllByRecursion (λ m. n < m) ns × AreRising ns

-- the space of the first of these
abbrev pub first_space : List SentPacket → Option Space
first_space [] = None
first_space (p ∷ ps) = Some p.space

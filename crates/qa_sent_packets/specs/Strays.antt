-- Packets of a space that were set aside.
use Rattle.std.specs.Prelude.{◌≡◌, ◌<◌, ◌==◌, ℕ, not, List, [], ◌∷◌, filter, map}
use Rattle.std.specs.List.{AllByRecursion}
use Rattle.qa_sent_packets.specs.declared.packet.SentPacket.{SentPacket}

-- the packets of these entries
abbrev pub filed : List (ℕ × SentPacket) → List SentPacket
filed es = map (λ e. e.1) es

-- each number is below all behind it
abbrev pub NumbersRise : List SentPacket → Type 0
NumbersRise [] = Unit {0}
NumbersRise (p ∷ ps) = AllByRecursion (λ q. p.number < q.number) ps × NumbersRise ps

-- each entry has the number of its packet, and these rise
pub record AreFiled (es : List (ℕ × SentPacket)) : Type 0 where
  pub keyed : AllByRecursion (λ e. e.0 ≡ e.1.number) es
  pub rising : NumbersRise (filed es)

-- those that do not have this number
abbrev pub without_number : ℕ → List SentPacket → List SentPacket
without_number n ps = filter (λ p. not (p.number == n)) ps

-- those that have the number of none of these
abbrev pub without : List SentPacket → List SentPacket → List SentPacket
without [] ps = ps
without (g ∷ gs) ps = without gs (without_number g.number ps)

-- In which order packets were sent.
use Rattle.std.specs.Prelude.{◌≡◌, ◌<◌, ◌≤◌, true, List, [], ◌∷◌}
use Rattle.std.specs.List.{AllByRecursion}
use Rattle.qa_base.specs.machine.Packets.{Packet, is_of}

-- q was sent before p: it stands before it, it was sent no later, and its number is lower if the
-- two are of one space
pub record WasSentBefore (p q : Packet) : Type 0 where
  pub place : q.place < p.place
  pub time : q.time ≤ p.time
  pub number : is_of p.space q ≡ true → q.number < p.number

-- each two of the list stand so, the first of them before the other
abbrev pub EachTwo : (Packet → Packet → Type 0) → List Packet → Type 0
EachTwo R [] = Unit {0}
EachTwo R (p ∷ ps) = AllByRecursion (R p) ps × EachTwo R ps

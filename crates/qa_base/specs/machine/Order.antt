-- In which order packets stand.
use Rattle.std.specs.Prelude.{◌≡◌, ◌<◌, true, List, [], ◌∷◌}
use Rattle.std.specs.List.{AllByRecursion}
use Rattle.qa_base.specs.machine.Packets.{Packet, is_of}

-- q has a lower number, if it is of the same space
abbrev pub IsLower : Packet → Packet → Type 0
IsLower p q = is_of p.space q ≡ true → q.number < p.number

-- each packet has a higher number than those behind it of its space
abbrev pub NumbersFall : List Packet → Type 0
NumbersFall [] = Unit {0}
NumbersFall (p ∷ ps) = AllByRecursion (IsLower p) ps × NumbersFall ps

-- The first packet of a list that has the latest first.
use Rattle.std.specs.Prelude.{ℕ, ◌==◌, nat_le, Bool, false, List, [], ◌∷◌, Option, Some, None}
use Rattle.std.specs.Prelude.{if◌then◌else◌}
use Rattle.qa_base.specs.machine.Packets.{Packet}

-- that packet, where it has this number
abbrev pub first_if_numbered : ℕ → List Packet → Option Packet
first_if_numbered n [] = None
first_if_numbered n (p ∷ ps) = if p.number == n then Some p else None

-- its number is this one or a higher one
abbrev pub is_first_at_or_above : ℕ → List Packet → Bool
is_first_at_or_above n [] = false
is_first_at_or_above n (p ∷ ps) = nat_le n p.number

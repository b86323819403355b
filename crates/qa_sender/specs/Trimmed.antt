-- Packets that begin with one that is still of use.
use Rattle.std.specs.Prelude.{◌≡◌, false, List, [], ◌∷◌}
use Rattle.qa_sent_packets.specs.Fates.{is_closed}
use Rattle.qa_sent_packets.specs.declared.packet.SentPacket.{SentPacket}

-- the first of these is open or owed, where there is one
abbrev pub IsTrimmed : List SentPacket → Type 0
IsTrimmed [] = Unit {0}
IsTrimmed (p ∷ ps) = is_closed p ≡ false

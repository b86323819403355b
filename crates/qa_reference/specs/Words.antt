-- Words for what one more event makes of a quantity.
use Rattle.std.specs.Prelude.{◌≡◌, ◌∷◌, ℕ, Bool, max, true, false, Option, Some, None, List, []}
use Rattle.std.specs.Prelude.{unwrap_or}
use Rattle.qa_base.specs.declared.event.Event.{Event}
use Rattle.qa_base.specs.declared.event.Event.TheVariants.{Discard}
use Rattle.qa_base.specs.machine.Loss.{declared, is_persistent}
use Rattle.qa_base.specs.machine.Packets.{Packet}
use Rattle.qa_base.specs.machine.Reno.{Move, CongestionEvent, is_outside_recovery, sent_mark}
use Rattle.qa_base.specs.values.Settings.{Settings}
use Rattle.qa_reference.specs.declared.window.Congestion.{Congestion}

-- the greater of the two, where both are there
abbrev pub raised : Option ℕ → Option ℕ → Option ℕ
raised None most = most
raised (Some n) None = Some n
raised (Some n) (Some m) = Some (max n m)

-- when the last of the packets was sent, by which recovery is told, where there is one
abbrev pub last_sending : Settings → List Packet → Option ℕ
last_sending c [] = None
last_sending c (p ∷ ps) = Some (max (sent_mark c p) (unwrap_or (last_sending c ps) 0))

-- when the last of the packets was sent that are lost by the last event, by which recovery is told,
-- and whether they establish persistent congestion (RFC 9002, sections 7.3.2 and 7.6)
abbrev pub IsCongestion : Settings → List Event → Congestion → Type 0
IsCongestion c h congestion =
    (congestion.last_sent ≡ last_sending c (declared c h))
    × (congestion.is_persistent ≡ is_persistent c h)

-- the move of a loss now, of packets the last of which was sent then, where there are any
abbrev pub hits_at : ℕ → Option ℕ → List Move
hits_at now None = []
hits_at now (Some last) = CongestionEvent last now ∷ []

abbrev pub is_discard : Event → Bool
is_discard (Discard time space) = true
is_discard _ = false

-- a loss enters recovery, of packets the last of which was sent then, where there are any
abbrev pub entry_by : Option ℕ → Option ℕ → Bool
entry_by recovery None = false
entry_by recovery (Some last) = is_outside_recovery recovery last

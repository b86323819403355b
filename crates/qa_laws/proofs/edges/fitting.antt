-- Edges of which events there are: the size and the flags of a packet, lists of ranges, and discarded spaces.
use Rattle.std.specs.Prelude.{◌≡◌, true, false, [], ◌∷◌, refl}
use Rattle.qa_base.specs.declared.event.Event.TheVariants.{Discard}
use Rattle.qa_base.specs.declared.space.Permission.TheVariants.{Window}
use Rattle.qa_base.specs.declared.space.Space.TheVariants.{Initial, Handshake, App}
use Rattle.qa_base.specs.values.Events.{fits}
use Rattle.qa_laws.proofs.Shorthand.{sent, padded, bare, ack, lost, pto_fires, packet_sent}

-- A packet has 1 to 65527 bytes, also one that is not in flight.
pub sizes_of_packets :
    (fits (sent App 0 0 0) ≡ false)
    × (fits (sent App 0 0 1) ≡ true)
    × (fits (sent App 0 0 65527) ≡ true)
    × (fits (sent App 0 0 65528) ≡ false)
    × (fits (bare App 0 0 0) ≡ false)
sizes_of_packets = (refl, refl, refl, refl, refl)

-- One that is ack-eliciting is in flight; one that is not may be or not.
pub flags_of_packets :
    (fits (packet_sent true false Window App 0 0 1200) ≡ false)
    × (fits (padded App 0 0 1200) ≡ true)
    × (fits (bare App 0 0 1200) ≡ true)
flags_of_packets = (refl, refl, refl)

-- An acknowledgment and a loss have ranges.
pub ranges_are_not_empty :
    (fits (ack Initial [] 0) ≡ false)
    × (fits (ack Initial ((0, 0) ∷ []) 0) ≡ true)
    × (fits (lost Initial [] 0) ≡ false)
    × (fits (lost Initial ((0, 0) ∷ (2, 5) ∷ []) 0) ≡ true)
ranges_are_not_empty = (refl, refl, refl, refl)

-- The application's space is never discarded; its timer may fire.
pub discarded_spaces :
    (fits (Discard 0 Initial) ≡ true)
    × (fits (Discard 0 Handshake) ≡ true)
    × (fits (Discard 0 App) ≡ false)
    × (fits (pto_fires App 0) ≡ true)
discarded_spaces = (refl, refl, refl, refl)

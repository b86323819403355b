-- What holds of each packet of a part of those that were sent.
use Rattle.std.specs.Prelude.{◌≡◌, true, false, List, [], ◌∷◌}
use Rattle.std.specs.List.{AllByRecursion}
use Rattle.qa_base.specs.declared.event.Event.{Event}
use Rattle.qa_base.specs.declared.space.Space.{Space}
use Rattle.qa_base.specs.machine.Kept.{is_kept}
use Rattle.qa_base.specs.machine.Loss.{is_open}
use Rattle.qa_base.specs.machine.Packets.{Packet, is_of}
use Rattle.qa_base.specs.values.Settings.{Settings}

-- these are of the space
abbrev pub AreOf : Space → List Packet → Type 0
AreOf s ps = AllByRecursion (λ p. is_of s p ≡ true) ps

-- none of these is open
abbrev pub AreClosed : Settings → List Event → List Packet → Type 0
AreClosed c h ps = AllByRecursion (λ p. is_open c h p ≡ false) ps

-- none of these is open or owed, so that nothing is asked of them again
abbrev pub AreDropped : Settings → List Event → List Packet → Type 0
AreDropped c h ps = AllByRecursion (λ p. is_kept c h p ≡ false) ps

-- the first of these is open or owed, where there is one
abbrev pub BeginsKept : Settings → List Event → List Packet → Type 0
BeginsKept c h [] = Unit {0}
BeginsKept c h (p ∷ ps) = is_kept c h p ≡ true

-- When the first ack-eliciting packet of a list was sent.
use Rattle.std.proofs.Common.{◌≡◌, ℕ, List, ◌∷◌, true, false, Option, Some, option_map, find, refl}
use Rattle.qa_base.specs.machine.Packets.{Packet}

abbrev pub time_of_first : List Packet → Option ℕ
time_of_first ps = option_map (λ (p : Packet). p.time) (find (λ (p : Packet). p.eliciting) ps)

-- it is that of the first packet where that is ack-eliciting
pub first_eliciting : (p : Packet) (ps : List Packet) → p.eliciting ≡ true → time_of_first (p ∷ ps) ≡ Some p.time
first_eliciting p ps is = rw is refl

-- else that of the rest
pub first_not_eliciting : (p : Packet) (ps : List Packet) → p.eliciting ≡ false → time_of_first (p ∷ ps) ≡ time_of_first ps
first_not_eliciting p ps is = rw is refl

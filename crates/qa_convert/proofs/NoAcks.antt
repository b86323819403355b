-- Frames among which is no ACK frame.
use Rattle.std.proofs.Common.{◌≡◌, Bool, true, false, List, [], ◌∷◌, map, refl, sym, subst}
use Rattle.std.specs.List.{list_any}
use Rattle.json.specs.Json.{Json}
use Rattle.qa_qlog.specs.Frames as frames
use Rattle.qa_qlog.specs.declared.times.Unit.{Unit}
use Rattle.qa_convert.specs.Packets.{AreAcksOf, KeepsIf}

step : (b : Bool) (unit : Unit) (j : Json) (js : List Json) → frames.is_ack (frames.type_of j) ≡ b → list_any frames.is_ack (map frames.type_of (j ∷ js)) ≡ false
    → (list_any frames.is_ack (map frames.type_of js) ≡ false → AreAcksOf unit js []) → AreAcksOf unit (j ∷ js) []
step true unit j js is none later = let no = rw is at none in cc
step false unit j js is none later = ([], [], refl, subst (λ b. KeepsIf b unit j []) (sym is) refl, later (rw is at none))

pub no_acks : (unit : Unit) (js : List Json) → list_any frames.is_ack (map frames.type_of js) ≡ false → AreAcksOf unit js []
no_acks unit [] none = refl
no_acks unit (j ∷ js) none = step (frames.is_ack (frames.type_of j)) unit j js refl none (no_acks unit js)

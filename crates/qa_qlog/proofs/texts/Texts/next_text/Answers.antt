use Rattle.std.proofs.Common.{refl, ap}
use Rattle.qa_qlog.proofs.Finding.{rest_at, moves_text}
use Rattle.qa_qlog.proofs.texts.Texts.next_text.Goals as goal

pub returns-in-Ok-Some : goal.returns-in-Ok-Some
returns-in-Ok-Some c =
    let at = rw (← c.self.view_is) at (rw c.in-Ok-Some.field-0-is at c.in-Ok-Some.ensures.place) in
    let passes = ap (λ u. rest_at u c.in-Ok-Some.found.after) c.take-bytes.follows.holds-at-none in
    ((refl, λ _. tt, moves_text _ _ _ c.in-Ok-Some.found c.take-bytes.result at.1 at.0 at.2 at.3 passes c.take-bytes.ensures.value), record { after_borrow = tt })

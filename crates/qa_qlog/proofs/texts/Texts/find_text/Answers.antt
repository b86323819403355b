use Rattle.std.proofs.Common.{◌≡◌, ◌∙◌, true, ap}
use Rattle.std.proofs.lemmas.Bool.{not-false}
use Rattle.qa_qlog.specs.Taking.{passed}
use Rattle.qa_qlog.proofs.Finding.{keeps_passed, none_stays}
use Rattle.qa_qlog.proofs.texts.Texts.find_text.Goals as goal

pub pieces-preserved : goal.pieces-preserved
pieces-preserved c =
    let at = rw c.in-Ok-Some.field-0-is at c.in-Ok-Some.ensures.place in
    let blank : c.in-Ok-Some.found.is_blank ≡ true = not-false _ c.if-not-found.false in
    let is : c.pass.new.self ≡ passed c.pieces.self c.in-Ok-Some.found = c.pass.ensures ∙ ap (λ rest. passed rest c.in-Ok-Some.found) at.1 in
    record {
      keeps = rw is (keeps_passed _ _ _ c.pieces.invariant.keeps at.0 blank);
      stays = none_stays _ _ _ c.pieces.invariant.keeps at.2;
    }

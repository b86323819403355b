use Rattle.std.proofs.Common.{◌≡◌, ◌∙◌, true, false, sym}
use Rattle.qa_convert.proofs.Ascii.{stretch_is_ascii}
use Rattle.qa_convert.proofs.place.Stretch.text.Goals as goal
use Rattle.qa_convert.proofs.place.Stretch.text.Goals.{then-not-is_at+in_ok-push_str-2+in_ok-push-2, else-not-is_at}

pub returns-clause-ascii : goal.returns-clause-ascii
returns-clause-ascii c =
    stretch_is_ascii c.args.self c.push.ensures.ascii
    (λ other. elim c.if-not-is_at.branch [
      | then-not-is_at+in_ok-push_str-2+in_ok-push-2 w ↦ w.push-then-not-is_at.ensures.ascii
      | else-not-is_at w ↦ (let both : false ≡ true = sym other ∙ sym c.is_at.ensures ∙ w.if-not-is_at.false in cc)
    ])

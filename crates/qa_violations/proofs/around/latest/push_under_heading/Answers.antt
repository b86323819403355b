use Rattle.std.proofs.Common.{◌≡◌, ◌∙◌, ◌==◌, false, length, sym, ap}
use Rattle.qa_violations.proofs.around_lemmas.Headed.{headed}
use Rattle.qa_explain.proofs.text_lemmas.Pushed.{last}
use Rattle.qa_violations.proofs.around.latest.push_under_heading.Goals as goal

pub returns : goal.returns
returns c =
    let rows = c.args.rows.now in
    let some : (length rows.items == 0) ≡ false = ap (λ n. n == 0) (sym rows.ok.0) ∙ (sym c.is_empty.ensures ∙ c.if-is_empty.false) in
    let is = headed rows.items some in
    rw is (last c.push_each.result _ _ _ _ _ c.in_ok-push_words.ensures c.push_each.ensures)

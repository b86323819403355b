use Rattle.std.proofs.Common.{◌-◌, ◌∙◌, ◌++◌, ◌∷◌, length, take, drop, arith, sym, ap, take-append-drop}
use Rattle.std.proofs.lemmas.List.{take_all, length-drop}
use Rattle.qa_scan.proofs.Runs.{all_plain}
use Rattle.qa_scan.proofs.tokens.string.Goals as goal

pub returns : goal.returns
returns c =
    let inside = c.in_ok-inside.inside.now in
    let i = c.plain_end-end.result in
    let front = take i inside in
    let end = sym (take_all (length inside - i) (drop i inside) (omega (arith, length-drop i inside))) ∙ c.in_ok-rest.ensures in
    (all_plain inside i c.plain_end-end.ensures, c.in_ok-inside.ensures ∙ ap (λ l. 34 ∷ l) (sym (take-append-drop i inside) ∙ ap (λ l. front ++ l) end))

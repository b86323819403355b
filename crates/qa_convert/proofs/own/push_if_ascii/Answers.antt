use Rattle.std.proofs.Common.{◌∙◌, ◌∷◌, [], map, sym, subst}
use Rattle.std.proofs.lemmas.List.{map-append}
use Rattle.serde_json.specs.View.{view}
use Rattle.qa_convert.specs.OwnKeys.{IsText}
use Rattle.qa_convert.proofs.Texts.{text_more}
use Rattle.qa_convert.proofs.own.push_if_ascii.Goals as goal

pub returns-in_ok-push : goal.returns-in_ok-push
returns-in_ok-push c all =
    let v = c.in_ok-try_from_str.field-0 in
    let old = c.args.list.now.items in
    let is = subst IsText (sym c.in_ok-try_from_str.ensures) (sym c.is_all_ascii.ensures ∙ c.if-is_all_ascii.true) in
    rw (c.in_ok-push.ensures.items, map-append view old (v ∷ [])) (text_more (map view old) (view v) all is)

use Rattle.std.proofs.Common.{◌∙◌, refl, ap}
use Rattle.std.proofs.lemmas.List.{get_or_default, take_all}
use Rattle.serde_json.proofs.Views.{view-Array}
use Rattle.serde_json.specs.Data.{string}
use Rattle.serde_json.specs.View.{view}
use Rattle.qa_convert.proofs.Guessed.{items_of-text_value, one_more}
use Rattle.qa_convert.proofs.guess.list_of.Goals as goal

pub loop-guess-preserved : goal.loop-guess-preserved
loop-guess-preserved c =
    rw c.in_ok-push.ensures.items
    (one_more view c.loop-guess.list.items c.in_ok-try_from_str.field-0 c.args.guesses.now c.loop-guess.guess-index _ c.loop-guess.invariant
    (c.in_ok-try_from_str.ensures ∙ ap string c.text.ensures) (get_or_default c.args.guesses.now c.loop-guess.guess-index _ _ c.loop-guess-test.true) c.loop-guess-test.true)

pub returns : goal.returns
returns c =
    let gs = c.args.guesses.now in
    let whole = take_all c.loop-guess.guess-index gs c.loop-guess-test.false in
    rw (view-Array, c.loop-guess.invariant, whole, items_of-text_value) refl

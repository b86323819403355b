use Rattle.std.proofs.Common.{◌∙◌, ◌<◌, ◌≤◌, arith, get_or, length, sym}
use Rattle.std.proofs.lemmas.List.{take_all, take_more_same}
use Rattle.qa_convert.specs.declared.guess.Guess.TheVariants as guess
use Rattle.qa_convert.proofs.Guessed.{same_guess}
use Rattle.qa_convert.proofs.kept.are_same.Goals as goal

pub loop-index-preserved : goal.loop-index-preserved
loop-index-preserved c =
    let i = c.loop-index.index in
    let these = c.args.these.now in
    let those = c.args.those.now in
    let within : i < length those = omega (arith, c.loop-index-test.true, c.if-these-those.false) in
    let first = guess.DatagramByWindow in
    take_more_same these those i first c.loop-index-test.true within c.loop-index.invariant
    (same_guess (get_or these i first) (get_or those i first) (sym c.is.ensures ∙ c.if-not-is.false))

pub returns : goal.returns
returns c = λ _.
    let i = c.loop-index.index in
    let past : length c.args.those.now ≤ i = omega (arith, c.loop-index-test.false, c.if-these-those.false) in
    sym (take_all i c.args.these.now c.loop-index-test.false) ∙ c.loop-index.invariant ∙ take_all i c.args.those.now past

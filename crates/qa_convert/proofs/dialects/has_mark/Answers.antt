use Rattle.std.proofs.Common.{◌∙◌, ap, sym}
use Rattle.std.proofs.lemmas.List.{take_rest}
use Rattle.qa_convert.specs.Dialects.{begins_with}
use Rattle.qa_convert.proofs.Dialected.{mark_passed}
use Rattle.qa_convert.proofs.dialects.has_mark.Goals as goal

pub loop-at-preserved : goal.loop-at-preserved
loop-at-preserved c =
    let rest = sym (take_rest c.args.text.now c.loop-at.at) in
    let not_here = ap (begins_with c.args.mark.now) rest ∙ sym c.begins_with.ensures ∙ c.if-begins_with.false in
    mark_passed c.args.mark.now c.args.text.now c.loop-at.at c.loop-at-test.true not_here ∙ c.loop-at.invariant

use Rattle.std.proofs.Common.{◌∙◌, sym, ap, List, ℕ}
use Rattle.std.proofs.lemmas.List.{take_rest}
use Rattle.qa_why.proofs.Among.{has_later}
use Rattle.qa_why.specs.Hints.{begins}
use Rattle.qa_why.proofs.hints.has.Goals as goal

pub loop-at-preserved : goal.loop-at-preserved
loop-at-preserved c =
    let none = ap (λ (bytes : List ℕ). begins bytes c.args.part.now) (sym (take_rest c.args.line.now c.loop-at.at)) ∙ (sym c.begins.ensures ∙ c.if-begins.false) in
    has_later c.args.line.now c.args.part.now c.loop-at.at none ∙ c.loop-at.invariant

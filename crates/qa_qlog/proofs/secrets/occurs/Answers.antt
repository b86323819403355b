use Rattle.std.proofs.Common.{◌∙◌, nat_eq, sym, ap}
use Rattle.std.proofs.lemmas.List.{take_rest}
use Rattle.std.specs.List.{starts_with}
use Rattle.qa_qlog.proofs.Keyed.{passed}
use Rattle.qa_qlog.proofs.secrets.occurs.Goals as goal

pub loop-i-preserved : goal.loop-i-preserved
loop-i-preserved c =
    let rest = sym (take_rest c.args.name.now c.loop-i.i) in
    let not_here = ap (λ bs. starts_with nat_eq bs c.args.part.now) rest ∙ sym c.starts_with.ensures.value ∙ c.if-starts_with.false in
    passed c.args.part.now c.args.name.now c.loop-i.i c.loop-i-test.true not_here ∙ c.loop-i.invariant

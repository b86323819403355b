use Rattle.std.proofs.Common.{◌-◌, ◌∙◌, length, drop, sym, arith}
use Rattle.std.proofs.lemmas.List.{take_all, length-drop}
use Rattle.std.proofs.lemmas.Option.{IfSome_then}
use Rattle.qa_scan.proofs.digits.digits_at.Goals as goal

pub returns : goal.returns
returns c =
    let bs = c.args.bytes.now in
    let whole = take_all (length bs - c.args.place) (drop c.args.place bs) (omega (arith, length-drop c.args.place bs)) in
    IfSome_then c.digits.result c.digits.ensures (λ found is. (sym whole ∙ is.0, is.1))

use Rattle.std.proofs.Common.{sym, subst, arith}
use Rattle.qa_scan.specs.Short.{AllBelow}
use Rattle.qa_scan.proofs.Lanes.{below_at, below_hundred, below_ten_thousand, below_hundred_million}
use Rattle.qa_scan.proofs.short.value.Goals as goal

pub fours-requires-clause-digits : goal.fours-requires-clause-digits
fours-requires-clause-digits c = subst (AllBelow 100) (sym c.twos.ensures) (below_hundred c.args.digits c.requires.digits)

pub eights-requires-clause-digits : goal.eights-requires-clause-digits
eights-requires-clause-digits c =
    subst (AllBelow 10000) (sym c.fours.ensures) (below_ten_thousand c.twos.result (subst (AllBelow 100) (sym c.twos.ensures) (below_hundred c.args.digits c.requires.digits)))

pub overflow_add-result : goal.overflow_add-result
overflow_add-result c =
    let twos = below_hundred c.args.digits c.requires.digits in
    let fours = below_ten_thousand c.twos.result (subst (AllBelow 100) (sym c.twos.ensures) twos) in
    let small = subst (AllBelow 100000000) (sym c.eights.ensures) (below_hundred_million c.fours.result (subst (AllBelow 10000) (sym c.fours.ensures) fours)) in
    let first = below_at 100000000 c.eights.result 0 (omega arith) small in
    let second = below_at 100000000 c.eights.result 1 (omega arith) small in
    record { fits = omega (arith, first, second) }

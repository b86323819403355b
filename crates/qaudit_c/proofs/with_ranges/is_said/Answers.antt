use Rattle.std.proofs.Common.{◌≡◌, ◌∙◌, ◌+◌, ap, length, rules}
use Rattle.qa_format.specs.format.Written.{written as text_of}
use Rattle.std.specs.Prelude.{nat_le}
use Rattle.qaudit_c.proofs.Ranges.{few_are_said, not_few, said_by_length}
use Rattle.qaudit_c.proofs.with_ranges.is_said.Goals as goal

pub returns-then-range_count-le-FEW_RANGES : goal.returns-then-range_count-le-FEW_RANGES
returns-then-range_count-le-FEW_RANGES c = few_are_said _ c.requires.ranges (rw c.range_count.ensures at c.if-range_count-le-FEW_RANGES.true)

pub returns : goal.returns
returns c =
    let written : c.len.result ≡ length (text_of c.args.line.now) = search (rules, c.len.ensures, ap length c.in_ok-text.ensures.text) in
    ap (λ n. nat_le n (65536 + c.left_out.result)) written
    ∙ said_by_length c.args.line.now c.left_out.result (not_few c.range_count.result c.args.line.now c.range_count.ensures c.if-range_count-le-FEW_RANGES.false) c.left_out.ensures

use Rattle.std.proofs.Common.{arith}
use Rattle.qa_scan.proofs.Numerals.{number_then_rest}
use Rattle.qa_scan.proofs.digits.short_digits.Goals as goal

pub returns : goal.returns
returns c =
    let found = c.in_ok-n.ensures in
    (number_then_rest c.args.bytes.now c.in_ok-n.i c.in_ok-n.n (omega (arith, found.few, c.if-bytes-lt-SHORT.false)) (found.is_text (omega (arith, c.if-n-eq0.false))), omega (arith, found.small))

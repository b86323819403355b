use Rattle.qa_scan.proofs.Numerals.{eight_text}
use Rattle.qa_scan.proofs.digits.eight_digits.Goals as goal

pub returns-then-are_eight_digits : goal.returns-then-are_eight_digits
returns-then-are_eight_digits c =
    let bs = c.args.bytes.now in
    let digits = c.are_eight_digits.ensures c.if-are_eight_digits.true bs c.eight_codes-codes.ensures in
    let eight = eight_text bs c.eight_value.result c.requires.long c.requires.first digits (c.eight_value.ensures bs c.eight_codes-codes.ensures digits) in
    (eight.is_text, eight.high, eight.low)

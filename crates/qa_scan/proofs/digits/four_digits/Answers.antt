use Rattle.std.proofs.Common.{get_or, arith}
use Rattle.std.proofs.lemmas.Bool.{and_parts}
use Rattle.qa_scan.proofs.Numerals.{digit_is, four_front}
use Rattle.qa_scan.proofs.digits.four_digits.Goals as goal

pub returns : goal.returns
returns c =
    let h3 = and_parts _ _ c.if-not-is_digit.false in
    let h2 = and_parts _ _ h3.0 in
    let h1 = and_parts _ _ h2.0 in
    let da = digit_is (get_or c.args.bytes.now 0 0) c.is_digit.result c.is_digit.ensures h1.0 in
    let db = digit_is (get_or c.args.bytes.now 1 0) c.is_digit-2.result c.is_digit-2.ensures h1.1 in
    let dc = digit_is (get_or c.args.bytes.now 2 0) c.is_digit-3.result c.is_digit-3.ensures h2.1 in
    let dd = digit_is (get_or c.args.bytes.now 3 0) c.is_digit-4.result c.is_digit-4.ensures h3.1 in
    let four = four_front c.args.bytes.now c.from.result c.from-2.result c.from-3.result c.from-4.result _ c.requires.long c.from.ensures c.from-2.ensures c.from-3.ensures c.from-4.ensures
    (omega (arith, c.from.ensures, c.requires.first)) (omega (arith, c.from.ensures, da.0), omega (arith, c.from.ensures, da.1)) (omega (arith, c.from-2.ensures, db.0), omega (arith, c.from-2.ensures, db.1))
    (omega (arith, c.from-3.ensures, dc.0), omega (arith, c.from-3.ensures, dc.1)) (omega (arith, c.from-4.ensures, dd.0), omega (arith, c.from-4.ensures, dd.1))
    (omega (arith, c.from.ensures, c.from-2.ensures, c.from-3.ensures, c.from-4.ensures, da.0, db.0, dc.0, dd.0)) in
    (four.is_text, omega (arith, four.high), four.low)

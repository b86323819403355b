use Rattle.std.proofs.Common.{◌≡◌, ◌∙◌, ◌+◌, ◌*◌, ◌^◌, ◌≤◌, length, arith, ap, sym, Some}
use Rattle.std.proofs.lemmas.Bool.{eqb-false}
use Rattle.std.proofs.Math.Nat.{pow-le-pow_right}
use Rattle.std.proofs.Common.{lit<}
use Rattle.std.specs.Str.Parse.{AllDigits, digits_value}
use Rattle.qa_qlog.proofs.Plain.{plain_number}
use Rattle.qa_qlog.proofs.numbers.plain.Goals as goal

pub digits_behind-requires : goal.digits_behind-requires
digits_behind-requires c =
    let ds = c.args.text.now in
    let short : length ds ≤ 19 = omega arith in
    let few : 10 ^ length ds ≤ 10 ^ 19 = pow-le-pow_right (lit< tt) short in
    omega arith

pub returns : goal.returns
returns c n is =
    let ds = c.args.text.now in
    let all : AllDigits 10 ds = rw is at c.digits_behind.ensures.digits in
    let value : n ≡ digits_value 10 ds = rw is at c.digits_behind.ensures.value in
    let below : n + 1 ≤ (0 + 1) * 10 ^ length ds = rw is at c.digits_behind.ensures.below in
    let some = eqb-false (length ds) 0 (sym c.is_empty.ensures ∙ c.if-is_empty.false) in
    let short : length ds ≤ 19 = omega arith in
    let few : 10 ^ length ds ≤ 10 ^ 19 = pow-le-pow_right (lit< tt) short in
    plain_number ds all (omega arith) (omega arith) ∙ ap Some (sym value)

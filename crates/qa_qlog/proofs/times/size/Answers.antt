use Rattle.std.proofs.Common.{◌∙◌, ◌++◌, ◌+◌, ◌<◌, ◌^◌, ap, ap₂, arith, min, sym, take, length}
use Rattle.std.specs.Str.Parse.{AllDigits, digits_value}
use Rattle.fast_float.proofs.Rows.{AllDigits-append}
use Rattle.qa_qlog.specs.Times.{cap, digits}
use Rattle.qa_qlog.proofs.Sizes.{size_is}
use Rattle.qa_qlog.proofs.times.size.Goals as goal

pub front_value-requires-clause-digits : goal.front_value-requires-clause-digits
front_value-requires-clause-digits c =
    AllDigits-append c.whole-whole.result.now c.fraction-fraction.result.now c.whole-whole.ensures.digits c.fraction-fraction.ensures.digits

pub returns : goal.returns
returns c =
    let p = c.args.number.now in
    let kept = c.min-kept.result in
    let w = c.whole-whole.ensures.value in
    let f = c.fraction-fraction.ensures.value in
    let lens = ap₂ (λ xs ys. length xs + length ys) w f in
    let len = ap length w in
    let whole_digits : AllDigits 10 p.whole = rw w at c.whole-whole.ensures.digits in
    let fraction_digits : AllDigits 10 p.fraction = rw f at c.fraction-fraction.ensures.digits in
    let short : length p.whole + length p.fraction < 2 ^ 64 = omega arith in
    let front = c.front_value.ensures ∙ ap₂ (λ xs ys. min (digits_value 10 (take kept (xs ++ ys))) cap) w f in
    let is = size_is c.args.unit p c.moves-right.result.0 c.moves-right.result.1 c.saturating_sub-point.result kept whole_digits fraction_digits short
    c.requires c.moves-right.ensures.right c.moves-right.ensures.left (omega arith) (omega arith) in
    c.grown.ensures (digits_value 10 (take kept (digits p))) front ∙ ap (λ n. min n cap) (sym is)

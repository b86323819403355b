use Rattle.std.proofs.Common.{◌∙◌, ◌+◌, ◌*◌, ◌-◌, min, take, get_or, arith, ap, sym}
use Rattle.std.proofs.lemmas.Str.Parse.{digit_at}
use Rattle.std.specs.Str.Parse.{digits_value_after}
use Rattle.fast_float.proofs.DigitsLemmas.{is_digit}
use Rattle.qa_qlog.specs.Times.{cap}
use Rattle.qa_qlog.proofs.Digits.{after_one_more, capped_more}
use Rattle.qa_qlog.proofs.times.value_after.Goals as goal

pub overflow_sub-digit : goal.overflow_sub-digit
overflow_sub-digit c = (digit_at c.args.digits.now c.loop-digit.digit-index c.requires (omega arith)).0

pub loop-digit-preserved : goal.loop-digit-preserved
loop-digit-preserved c =
    let ds = c.args.digits.now in
    let i = c.loop-digit.digit-index in
    let d = get_or ds i 0 in
    let range = digit_at ds i c.requires c.loop-digit-test.true in
    let value = (is_digit d range.0 range.1).1 in
    record {
      small = omega arith;
      is = λ n start.
          c.min-value-in-loop-digit.ensures
          ∙ capped_more cap (digits_value_after 10 n (take i ds)) c.loop-digit.value (d - 48) (c.loop-digit.invariant.is n start)
          ∙ ap (λ k. min (digits_value_after 10 n (take i ds) * 10 + k) cap) (sym value)
          ∙ ap (λ k. min k cap) (sym (after_one_more n ds i c.loop-digit-test.true));
    }

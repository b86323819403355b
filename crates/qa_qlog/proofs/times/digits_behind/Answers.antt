use Rattle.std.proofs.Common.{◌≡◌, ◌∙◌, ◌+◌, ◌*◌, ◌-◌, take, get_or, arith, ap, sym, take_all}
use Rattle.std.proofs.lemmas.Int.Digits.{digits_more}
use Rattle.std.specs.Str.Parse.{AllDigits, digits_value_after}
use Rattle.fast_float.proofs.DigitsLemmas.{is_digit}
use Rattle.qa_qlog.proofs.Digits.{after_one_more}
use Rattle.qa_qlog.proofs.Plain.{after_below}
use Rattle.qa_qlog.proofs.Short.{behind_below}
use Rattle.qa_qlog.proofs.times.digits_behind.Goals as goal

pub overflow_mul-value : goal.overflow_mul-value
overflow_mul-value c =
    let below = behind_below c.args.start c.args.digits.now c.loop-digit.digit-index 10000000000000000000 c.loop-digit.invariant.digits c.loop-digit-test.true c.requires in
    let is = c.loop-digit.invariant.is in
    omega arith

pub overflow_add-value : goal.overflow_add-value
overflow_add-value c =
    let below = behind_below c.args.start c.args.digits.now c.loop-digit.digit-index 10000000000000000000 c.loop-digit.invariant.digits c.loop-digit-test.true c.requires in
    let is = c.loop-digit.invariant.is in
    let range = c.if-not-is_ascii_digit.ensures.cases in
    omega arith

pub loop-digit-preserved : goal.loop-digit-preserved
loop-digit-preserved c =
    let ds = c.args.digits.now in
    let i = c.loop-digit.digit-index in
    let range = c.if-not-is_ascii_digit.ensures.cases in
    let value = (is_digit (get_or ds i 0) range.0 range.1).1 in
    record {
      digits = digits_more 10 ds i c.loop-digit-test.true c.loop-digit.invariant.digits c.if-not-is_ascii_digit.ensures.bound;
      is = ap (λ k. k * 10 + (get_or ds i 0 - 48)) c.loop-digit.invariant.is
          ∙ ap (λ k. digits_value_after 10 c.args.start (take i ds) * 10 + k) (sym value)
          ∙ sym (after_one_more c.args.start ds i c.loop-digit-test.true);
    }

pub returns-clause-below : goal.returns-clause-below
returns-clause-below c =
    let ds = c.args.digits.now in
    let i = c.loop-digit.digit-index in
    let whole : take i ds ≡ ds = take_all i ds (omega arith) in
    let all : AllDigits 10 ds = rw whole at c.loop-digit.invariant.digits in
    let value : c.loop-digit.value ≡ digits_value_after 10 c.args.start ds = rw whole at c.loop-digit.invariant.is in
    let below = after_below c.args.start ds all in
    omega arith

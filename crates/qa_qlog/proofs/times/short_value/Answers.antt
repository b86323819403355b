use Rattle.std.proofs.Common.{◌∙◌, ◌+◌, ◌*◌, ◌-◌, take, get_or, arith, ap, sym}
use Rattle.std.proofs.lemmas.Str.Parse.{digit_at}
use Rattle.std.specs.Str.Parse.{digits_value_after}
use Rattle.fast_float.proofs.DigitsLemmas.{is_digit}
use Rattle.qa_qlog.proofs.Digits.{after_one_more}
use Rattle.qa_qlog.proofs.Plain.{few_after}
use Rattle.qa_qlog.proofs.times.short_value.Goals as goal

pub overflow_mul-value : goal.overflow_mul-value
overflow_mul-value c =
    let below = few_after c.args.start c.args.digits.now c.loop-digit.digit-index 9 c.requires.digits (omega arith) c.requires.small in
    let is = c.loop-digit.invariant in
    omega arith

pub overflow_sub-value : goal.overflow_sub-value
overflow_sub-value c = (digit_at c.args.digits.now c.loop-digit.digit-index c.requires.digits c.loop-digit-test.true).0

pub overflow_add-value : goal.overflow_add-value
overflow_add-value c =
    let below = few_after c.args.start c.args.digits.now c.loop-digit.digit-index 9 c.requires.digits (omega arith) c.requires.small in
    let is = c.loop-digit.invariant in
    let range = digit_at c.args.digits.now c.loop-digit.digit-index c.requires.digits c.loop-digit-test.true in
    omega arith

pub loop-digit-preserved : goal.loop-digit-preserved
loop-digit-preserved c =
    let ds = c.args.digits.now in
    let i = c.loop-digit.digit-index in
    let range = digit_at ds i c.requires.digits c.loop-digit-test.true in
    let value = (is_digit (get_or ds i 0) range.0 range.1).1 in
    ap (λ k. k * 10 + (get_or ds i 0 - 48)) c.loop-digit.invariant
    ∙ ap (λ k. digits_value_after 10 c.args.start (take i ds) * 10 + k) (sym value)
    ∙ sym (after_one_more c.args.start ds i c.loop-digit-test.true)

pub returns-clause-below : goal.returns-clause-below
returns-clause-below c =
    let below = few_after c.args.start c.args.digits.now c.loop-digit.digit-index 10 c.requires.digits (omega arith) c.requires.small in
    let is = c.loop-digit.invariant in
    omega arith

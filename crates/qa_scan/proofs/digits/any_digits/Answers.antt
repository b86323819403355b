use Rattle.std.proofs.Common.{◌+◌, ◌*◌, ◌-◌, ◌∙◌, decimal, sym, ap, arith}
use Rattle.qa_scan.proofs.Numerals.{next_digit, number_then_rest, zero_then_rest, digit_more, below_digits}
use Rattle.qa_scan.proofs.digits.any_digits.Goals as goal

pub returns-then-first-eq-ZERO : goal.returns-then-first-eq-ZERO
returns-then-first-eq-ZERO c = (zero_then_rest c.args.bytes.now c.in-len1-up.len_at_least (sym c.from-first.ensures ∙ c.if-first-eq-ZERO.true), omega arith)

pub loop-i-init : goal.loop-i-init
loop-i-init c = let front = c.first_digits-i.ensures in record {
  within = omega (arith, front.few, front.within);
  some = front.positive;
  small = front.small;
  is_text = front.is_text;
}

pub loop-i-preserved : goal.loop-i-preserved
loop-i-preserved c =
    let kept = c.loop-i.invariant in
    let small = below_digits c.loop-i.n c.loop-i.i 18 kept.small (omega arith) in
    record {
      within = omega arith;
      some = omega arith;
      small = digit_more c.loop-i.n (c.from-digit.result - 48) c.loop-i.i kept.small (omega arith);
      is_text = next_digit c.args.bytes.now c.loop-i.i c.loop-i.n kept.is_text (omega arith) kept.some small (omega (arith, c.from-digit.ensures)) (omega (arith, c.from-digit.ensures))
          ∙ ap (λ d. decimal (c.loop-i.n * 10 + (d - 48))) (sym c.from-digit.ensures);
    }

pub overflow_mul-n : goal.overflow_mul-n
overflow_mul-n c = let small = below_digits c.loop-i.n c.loop-i.i 18 c.loop-i.invariant.small (omega arith) in omega (arith, small)

pub overflow_add-n : goal.overflow_add-n
overflow_add-n c = let small = below_digits c.loop-i.n c.loop-i.i 18 c.loop-i.invariant.small (omega arith) in omega (arith, small)

pub returns : goal.returns
returns c =
    let kept = c.loop-i.invariant in
    let small = below_digits c.loop-i.n c.loop-i.i 19 kept.small (omega arith) in
    (number_then_rest c.args.bytes.now c.loop-i.i c.loop-i.n (omega arith) kept.is_text, omega (arith, small))

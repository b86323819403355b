-- How many nanoseconds a number is, by its first digits.
use Rattle.std.proofs.Common.{◌≡◌, ◌∙◌, ◌+◌, ◌-◌, ◌*◌, ◌^◌, ◌<◌, ℕ, Bool, true, false, min, length, take, sym, ap, ap₂, arith, length-append, cond, nat_le, leb-true}
use Rattle.std.proofs.lemmas.Bool.{and_parts}
use Rattle.std.proofs.lemmas.List.{take_min}
use Rattle.std.specs.Str.Parse.{AllDigits, digits_value}
use Rattle.fast_float.specs.Text.{Parts, tens_up}
use Rattle.fast_float.proofs.Rows.{AllDigits-append}
use Rattle.qa_qlog.specs.declared.times.Unit.{Unit}
use Rattle.qa_qlog.specs.Times.{places, digits, leading, to_left, most_places, is_near, size, cap}
use Rattle.qa_qlog.proofs.Digits.{whole_part}

-- a number near its point is moved by less than the cap
near_small : (negative : Bool) (a n e : ℕ) → a < 2 ^ 64 → n < 2 ^ 64
    → a + cond negative 0 e < n + cond negative e 0 + 41 → n + cond negative e 0 < a + cond negative 0 e + 41
    → (cond negative 0 e < cap) × (cond negative e 0 < cap)
near_small true a n e short_a short_n right left = (omega arith, omega arith)
near_small false a n e short_a short_n right left = (omega arith, omega arith)

moved : (p : Parts) → length p.whole + length p.fraction < 2 ^ 64 → is_near p ≡ true → (tens_up p < cap) × (to_left p < cap)
moved p short near =
    let tests = and_parts (nat_le (length p.whole + tens_up p) (leading (digits p) + to_left p + most_places))
    (nat_le (leading (digits p) + to_left p) (length p.whole + tens_up p + most_places)) near in
    let right = leb-true _ _ tests.0 in
    let left = leb-true _ _ tests.1 in
    let long = length-append p.whole p.fraction in
    near_small p.exponent_negative (length p.whole) (leading (digits p)) (digits_value 10 p.exponent) (omega arith) (omega arith) (omega arith) (omega arith)

pub size_is : (unit : Unit) (p : Parts) (right left point kept : ℕ) → AllDigits 10 p.whole → AllDigits 10 p.fraction → length p.whole + length p.fraction < 2 ^ 64
    → is_near p ≡ true → right ≡ min (tens_up p) cap → left ≡ min (to_left p) cap → point ≡ length p.whole + right + places unit - left → kept ≡ min point (length p.whole + length p.fraction)
    → size unit p ≡ digits_value 10 (take kept (digits p)) * 10 ^ (point - kept)
size_is unit p right left point kept whole_digits fraction_digits short near right_is left_is point_is kept_is =
    let small = moved p short near in
    let small_right : tens_up p < cap = small.0 in
    let small_left : to_left p < cap = small.1 in
    let long : length (digits p) ≡ length p.whole + length p.fraction = length-append p.whole p.fraction in
    let all = AllDigits-append p.whole p.fraction whole_digits fraction_digits in
    let at : length p.whole + (tens_up p + places unit) - to_left p ≡ point = omega arith in
    let kept_at : kept ≡ min point (length (digits p)) = omega arith in
    let front : take point (digits p) ≡ take kept (digits p) = sym (ap (λ k. take k (digits p)) kept_at ∙ take_min point (digits p)) in
    let zeros : point - length (digits p) ≡ point - kept = omega arith in
    whole_part (digits p) (length p.whole) (length p.fraction) (tens_up p + places unit) (to_left p) all long
    ∙ ap (λ k. digits_value 10 (take k (digits p)) * 10 ^ (k - length (digits p))) at
    ∙ ap₂ (λ ds k. digits_value 10 ds * 10 ^ k) front zeros

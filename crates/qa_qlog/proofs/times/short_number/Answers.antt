use Rattle.std.proofs.Common.{◌∙◌, ◌*◌, ◌-◌, ◌^◌, ◌≤◌, length, arith, ap, sym}
use Rattle.std.proofs.lemmas.Bool.{eqb-false}
use Rattle.std.proofs.Math.Nat.{pow-le-pow_right}
use Rattle.std.proofs.Common.{lit<}
use Rattle.std.specs.Str.Parse.{digits_value_after}
use Rattle.qa_qlog.proofs.Short.{short, room_behind, room_zeros}
use Rattle.qa_qlog.proofs.times.short_number.Goals as goal

pub digits_behind-requires : goal.digits_behind-requires
digits_behind-requires c =
    let ws = c.split_point.result.0.now in
    let short : length ws ≤ 19 = omega arith in
    let few : 10 ^ length ws ≤ 10 ^ 19 = pow-le-pow_right (lit< tt) short in
    omega arith

pub digits_behind-requires-2 : goal.digits_behind-requires-2
digits_behind-requires-2 c =
    room_behind c.in_ok-digits_behind.field-0 (length c.split_point.result.0.now) (length c.split_point.result.1.now) 19 10000000000000000000
    c.in_ok-digits_behind.ensures.below (omega arith) (omega arith)

pub with_zeros-requires : goal.with_zeros-requires
with_zeros-requires c =
    let f = length c.split_point.result.1.now in
    let z = c.places-places.result - f in
    room_zeros c.in_ok-number.number c.in_ok-digits_behind.field-0 (length c.split_point.result.0.now) f z 19 10000000000000000000
    c.in_ok-number.ensures.below c.in_ok-digits_behind.ensures.below (omega arith) (omega arith)

pub returns : goal.returns
returns c =
    let ws = c.split_point.result.0.now in
    let fs = c.split_point.result.1.now in
    let unit = c.args.unit in
    let at = c.places-places.ensures in
    let found = short unit c.args.text.now ws fs (record {
      is = c.split_point.ensures;
      whole = c.in_ok-digits_behind.ensures.digits;
      fraction = c.in_ok-number.ensures.digits;
      some = omega (arith, eqb-false (length ws) 0 (sym c.is_empty.ensures ∙ c.if-is_empty.false));
      behind = omega arith;
      few = omega arith;
    }) in
    let number = c.in_ok-number.ensures.value ∙ ap (λ n. digits_value_after 10 n fs) c.in_ok-digits_behind.ensures.value in
    let f = length fs in
    let zeros = c.places-places.result - f in (
      found.0,
      found.1,
      c.with_zeros.ensures
          ∙ ap (λ n. n * 10 ^ zeros) number
          ∙ ap (λ k. digits_value_after 10 (digits_value_after 10 0 ws) fs * 10 ^ (k - f)) at
          ∙ sym found.2,
    )

use Rattle.std.proofs.Common.{◌∙◌, ◌-◌, refl, ap, arith, min, length}
use Rattle.std.specs.Str.Parse.{digits_value}
use Rattle.fast_float.proofs.Rows.{AllDigits-take}
use Rattle.qa_qlog.specs.Times.{cap}
use Rattle.qa_qlog.proofs.Digits.{digits_front, digits_back, value_both}
use Rattle.qa_qlog.proofs.times.front_value.Goals as goal

pub value_after-requires : goal.value_after-requires
value_after-requires c =
    AllDigits-take c.args.kept c.args.whole.now (digits_front c.args.whole.now c.args.fraction.now c.requires.digits)

pub value_after-requires-2 : goal.value_after-requires-2
value_after-requires-2 c = digits_front c.args.whole.now c.args.fraction.now c.requires.digits

pub value_after-requires-3 : goal.value_after-requires-3
value_after-requires-3 c =
    AllDigits-take (c.args.kept - length c.args.whole.now) c.args.fraction.now (digits_back c.args.whole.now c.args.fraction.now c.requires.digits)

pub returns : goal.returns
returns c =
    c.value_after-3.ensures (digits_value 10 c.args.whole.now) (c.value_after-2.ensures 0 refl)
    ∙ ap (λ n. min n cap) (value_both c.args.kept c.args.whole.now c.args.fraction.now (omega arith))

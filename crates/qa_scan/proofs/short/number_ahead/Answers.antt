use Rattle.std.proofs.Common.{◌∙◌, arith}
use Rattle.qa_scan.proofs.Lanes.{short_is}
use Rattle.qa_scan.proofs.short.number_ahead.Goals as goal

pub returns-clause-short : goal.returns-clause-short
returns-clause-short c =
    short_is c.args.bytes c.less_zero-lanes.result c.digits_ahead-digits.result _ c.digits_ahead-digits.ensures.few (omega (arith, c.fits-bytes.0)) c.less_zero-lanes.ensures.digits c.digits_ahead-digits.ensures.digits
    c.requires (c.value.ensures ∙ c.aligned.ensures.value)

pub returns-clause-digits : goal.returns-clause-digits
returns-clause-digits c j before =
    let is = c.less_zero-lanes.ensures.digits j (omega (arith, before, c.digits_ahead-digits.ensures.few)) (c.digits_ahead-digits.ensures.digits j before) in
    omega (arith, is)

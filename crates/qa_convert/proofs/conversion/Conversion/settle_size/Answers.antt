use Rattle.std.proofs.Common.{◌≡◌, true, refl}
use Rattle.qa_convert.proofs.Sent.{grown_is}
use Rattle.qa_convert.proofs.conversion.Conversion.settle_size.Goals as goal
use Rattle.qa_convert.proofs.conversion.Conversion.settle_size.Goals.{else-not-by_growth-via-then-not-by_growth+else-not-packet, else-not-by_growth-via-else-not-by_growth}

pub returns-after-not-packet-2-clause-is : goal.returns-after-not-packet-2-clause-is
returns-after-not-packet-2-clause-is c = λ p is.
    grown_is c.args.by_growth p c.args.packet.now _ is
    (λ e. elim c.else-not-by_growth.branch [
      | else-not-by_growth-via-then-not-by_growth+else-not-packet w ↦ w.if-not-packet.false
      | else-not-by_growth-via-else-not-by_growth w ↦ let taken : c.args.by_growth ≡ true = w.if-not-by_growth.false in cc
    ])
    c.grow.ensures.packet refl (c.grow.ensures.grown c.if-grow.true)

use Rattle.std.proofs.Common.{subst, sym, true}
use Rattle.std.proofs.lemmas.Result.{on_ok_weaker}
use Rattle.qa_convert.proofs.Sent.{set_are}
use Rattle.qa_convert.specs.Sending.{IsOf}
use Rattle.qa_convert.specs.declared.sending.Outgoing.{Outgoing}
use Rattle.qa_convert.proofs.conversion.Conversion.settle_at.Goals as goal

pub returns-clause-are : goal.returns-clause-are
returns-clause-are c =
    on_ok_weaker c.settle_size.result
    (λ is ps are.
    set_are true c.args.by_growth ps _ c.args.place c.in-Some.packet.now _ are
    (λ p here. is p (subst (λ (o : Outgoing). IsOf true c.args.by_growth p o) (sym c.in-Some.ensures.value) here)))
    c.settle_size.ensures.is

use Rattle.std.proofs.Common.{codes, refl, sym, subst}
use Rattle.qa_fast_reader.specs.declared.found.Found.{Found}
use Rattle.qa_fast_reader.specs.Found.{EndsIf}
use Rattle.qa_fast_reader.proofs.Taking.{later_if}
use Rattle.qa_fast_reader.proofs.in_order.sent_behind.Goals as goal

pub returns : goal.returns
returns c whole before =
    let s0 = subst (λ (f : Found). EndsIf f whole c.args.bytes.now) (sym c.begun-found.ensures) before in
    let s1 = later_if (codes "space") c.begun-found.result c.space.new.self whole c.args.bytes.now _ _ refl (c.in_ok-next_value.ensures (codes "space") refl) (λ _. c.in_ok-rest.ensures.found) s0 in
    let s2 = c.in_ok-rest-2.ensures whole s1 in
    let s3 = c.in_ok-rest-3.ensures whole s2 in
    c.ended.ensures whole (c.in_ok-rest-4.ensures whole s3)

use Rattle.std.proofs.Common.{subst}
use Rattle.qa_base.specs.declared.line_kind.LineKind.{LineKind}
use Rattle.qa_fast_reader.specs.Found.{EndsIf, begun}
use Rattle.qa_fast_reader.proofs.in_order.in_order.Goals as goal

pub returns-in-Sent : goal.returns-in-Sent
returns-in-Sent c whole before is =
    c.put_sent.ensures whole (subst (λ (k : LineKind). EndsIf (begun k c.in-Some.time) whole c.in-Some.rest.now) c.in-Sent.is (c.in-Some.ensures whole before)) is

pub returns-in-Ack : goal.returns-in-Ack
returns-in-Ack c whole before is =
    c.put_ack.ensures whole (subst (λ (k : LineKind). EndsIf (begun k c.in-Some.time) whole c.in-Some.rest.now) c.in-Ack.is (c.in-Some.ensures whole before)) is

pub returns-in-Lost : goal.returns-in-Lost
returns-in-Lost c whole before is =
    c.put_lost.ensures whole (subst (λ (k : LineKind). EndsIf (begun k c.in-Some.time) whole c.in-Some.rest.now) c.in-Lost.is (c.in-Some.ensures whole before)) is

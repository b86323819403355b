use Rattle.std.proofs.Common.{sym, subst, rules}
use Rattle.qa_fast_reader.specs.declared.found.Found.{Found}
use Rattle.qa_fast_reader.specs.Found.{Follows}
use Rattle.qa_fast_reader.proofs.Taking.{goes_on, quick_reads}
use Rattle.qa_fast_reader.proofs.any_order.line_of_members.Goals as goal

pub loop-i-init : goal.loop-i-init
loop-i-init c whole before = subst (λ (f : Found). Follows f whole c.args.bytes.now) (sym c.nothing-found.ensures) before

pub loop-i-preserved : goal.loop-i-preserved
loop-i-preserved c whole before =
    goes_on c.loop-i.found c.member.new.self whole c.loop-i.rest.now c.in_ok-behind.behind.now c.in-Some.more.now
    (c.loop-i.invariant whole before) c.in_ok-behind.ensures c.in-Some.ensures

pub returns-in_default : goal.returns-in_default
returns-in_default c whole before =
    quick_reads c.loop-i.found c.member.new.self c.line_said.result whole c.loop-i.rest.now c.in_ok-behind.behind.now c.in_ok-end.end.now
    (c.loop-i.invariant whole before) c.in_ok-behind.ensures c.in_ok-end.ensures (search rules) c.line_said.ensures

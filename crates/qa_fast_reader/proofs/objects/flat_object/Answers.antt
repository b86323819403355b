use Rattle.std.proofs.Common.{rules}
use Rattle.qa_fast_reader.proofs.Making.{object_begins, object_goes_on, object_ends}
use Rattle.qa_fast_reader.proofs.objects.flat_object.Goals as goal

pub loop-i-init : goal.loop-i-init
loop-i-init c = object_begins c.args.bytes.now c.in_ok-rest.rest.now c.new-found.result.entries c.new-found.ensures.empty c.in_ok-rest.ensures

pub loop-i-preserved : goal.loop-i-preserved
loop-i-preserved c =
    object_goes_on _ _ c.args.bytes.now c.loop-i.rest.now c.in_ok-behind.behind.now c.in-Some.more.now c.loop-i.invariant c.in_ok-behind.ensures c.in-Some.ensures

pub returns-in_default : goal.returns-in_default
returns-in_default c =
    object_ends c.member.new.found _ c.args.bytes.now c.loop-i.rest.now c.in_ok-behind.behind.now c.in_ok-end.end.now
    c.loop-i.invariant c.in_ok-behind.ensures c.in_ok-end.ensures (search rules)

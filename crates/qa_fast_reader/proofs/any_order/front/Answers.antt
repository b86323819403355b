use Rattle.qa_fast_reader.specs.Found.{nothing}
use Rattle.qa_fast_reader.proofs.Taking.{begins, goes_on}
use Rattle.qa_fast_reader.proofs.any_order.front.Goals as goal

pub loop-i-init : goal.loop-i-init
loop-i-init c = begins c.args.bytes.now c.in_ok-rest.rest.now c.in_ok-rest.ensures

pub loop-i-preserved : goal.loop-i-preserved
loop-i-preserved c =
    goes_on nothing nothing c.args.bytes.now c.loop-i.rest.now c.in-Some.behind.now c.in_ok-more.more.now c.loop-i.invariant (c.in-Some.ensures nothing) c.in_ok-more.ensures

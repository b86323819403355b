use Rattle.qa_fast_reader.proofs.Taking.{closes_at_end}
use Rattle.qa_fast_reader.proofs.members.closes_behind.Goals as goal

pub loop-i-init : goal.loop-i-init
loop-i-init c f whole before = before

pub loop-i-preserved : goal.loop-i-preserved
loop-i-preserved c f whole before = c.in-Some.ensures.passes f whole (c.loop-i.invariant f whole before)

pub returns-in_default : goal.returns-in_default
returns-in_default c is f whole o before says = closes_at_end c.loop-i.rest.now (c.is_end.ensures is) f whole o (c.loop-i.invariant f whole before) says

use Rattle.qa_fast_reader.proofs.any_order.any_order.Goals as goal

pub returns-then-in_order : goal.returns-then-in_order
returns-then-in_order c is = c.in_order.ensures c.args.bytes.now c.in-Some.ensures c.if-in_order.true

pub returns : goal.returns
returns c is = c.put_members.ensures c.args.bytes.now c.in-Some.ensures is

use Rattle.std.proofs.Common.{◌++◌}
use Rattle.qa_convert.proofs.Ordered.{pushed_follows}
use Rattle.qa_convert.proofs.order.PacketFirst.put.Goals as goal

pub returns-clause-order : goal.returns-clause-order
returns-clause-order c =
    rw c.in_ok-push_back.ensures.items
    (pushed_follows (c.args.out.now.items ++ c.args.self.now.held.items) c.flush.new.out.items c.args.event c.in_ok-flush.ensures.order)

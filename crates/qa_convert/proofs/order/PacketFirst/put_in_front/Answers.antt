use Rattle.std.proofs.Common.{refl}
use Rattle.qa_convert.proofs.Ordered.{came_follows}
use Rattle.qa_convert.proofs.order.PacketFirst.put_in_front.Goals as goal

pub returns-clause-order : goal.returns-clause-order
returns-clause-order c =
    rw c.in_ok-flush_held.ensures.out
    (rw c.in_ok-push_back.ensures.items
    (rw c.flush_report.ensures.held
    (came_follows c.args.self.now.is_timed c.args.out.now.items c.flush_report.new.out.items c.args.self.now.held.items c.args.event _
    c.requires.waits c.in_ok-flush_report.ensures.order c.requires.received refl)))

use Rattle.std.proofs.Common.{refl}
use Rattle.qa_convert.proofs.Ordered.{quiet_follows}
use Rattle.qa_convert.proofs.order.PacketFirst.flush_report.Goals as goal

pub returns-clause-order : goal.returns-clause-order
returns-clause-order c = rw c.in_ok-push_back.ensures.items (quiet_follows c.args.out.now.items _ _ refl)

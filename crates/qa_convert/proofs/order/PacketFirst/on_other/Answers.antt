use Rattle.std.proofs.Common.{refl}
use Rattle.qa_convert.proofs.Ordered.{other_follows}
use Rattle.qa_convert.proofs.order.PacketFirst.on_other.Goals as goal

pub returns-in_ok-push_back-clause-order : goal.returns-in_ok-push_back-clause-order
returns-in_ok-push_back-clause-order c =
    rw c.in_ok-push_back.ensures.items
    (other_follows c.args.self.now.is_timed c.args.out.now.items c.args.self.now.held.items c.args.event c.requires.waits
    (c.if-has_caused.ensures.other refl))

use Rattle.std.proofs.Common.{[], ◌∷◌, ap, cond}
use Rattle.qa_convert.specs.Orders.{is_lost}
use Rattle.qa_convert.proofs.Ordered.{first_follows}
use Rattle.qa_convert.proofs.order.PacketFirst.on_report.Goals as goal

pub returns-then-report-clause-order : goal.returns-then-report-clause-order
returns-then-report-clause-order c =
    rw c.in_ok-push_back.ensures.items
    (first_follows c.args.self.now.is_timed c.args.out.now.items c.args.self.now.held.items c.args.event c.requires.waits
    (ap (λ s. cond (is_lost s) (s ∷ []) []) c.requires.report))

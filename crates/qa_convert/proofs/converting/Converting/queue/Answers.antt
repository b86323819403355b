use Rattle.std.proofs.Common.{append-nil}
use Rattle.qa_convert.proofs.Ordered.{pushed_follows, same_follows}
use Rattle.qa_convert.proofs.converting.Converting.queue.Goals as goal

pub returns-in_ok-push_back-in-None-clause-order : goal.returns-in_ok-push_back-in-None-clause-order
returns-in_ok-push_back-in-None-clause-order c =
    let es = c.args.self.now.events.items in
    rw (c.in-None.is, c.in_ok-push_back-in-None.ensures.items, append-nil es) (pushed_follows es es c.args.event (same_follows es))

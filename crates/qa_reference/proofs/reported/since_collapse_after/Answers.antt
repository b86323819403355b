use Rattle.qa_base.proofs.machine.Collapses.{since_bound}
use Rattle.qa_reference.proofs.reported.since_collapse_after.Goals as goal

pub more-requires-clause-small : goal.more-requires-clause-small
more-requires-clause-small c = rw c.requires.known (since_bound c.args.header.now c.args.before.now c.requires.fit c.requires.few)

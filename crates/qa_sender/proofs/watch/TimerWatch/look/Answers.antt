use Rattle.std.proofs.Common.{◌∷◌}
use Rattle.qa_sender.proofs.Watching.{watched_more}
use Rattle.qa_sender.proofs.watch.TimerWatch.look.Goals as goal

pub returns : goal.returns
returns c = λ k e h of proper stands is watched.
    watched_more c.args.self.now c.set.new.self k e h c.due_now.result c.args.now (c.due_now.ensures k (e ∷ h) of proper stands) is c.set.ensures.due c.set.ensures.since watched

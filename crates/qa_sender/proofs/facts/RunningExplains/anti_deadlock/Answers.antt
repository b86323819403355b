use Rattle.std.proofs.Common.{◌∙◌}
use Rattle.qa_sender.proofs.connection_lemmas.Due.{anti_deadlock_is}
use Rattle.qa_sender.proofs.facts.RunningExplains.anti_deadlock.Goals as goal

pub returns : goal.returns
returns c = rw (← c.self.view_is) (λ works k h after. c.anti_deadlock.ensures ∙ anti_deadlock_is c.self.inside.machine.connection k h after.connection after.run)

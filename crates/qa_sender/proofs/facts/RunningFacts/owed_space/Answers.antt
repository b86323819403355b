use Rattle.std.proofs.Common.{◌∙◌}
use Rattle.qa_sender.proofs.Causal.{owed_space_is_held}
use Rattle.qa_sender.proofs.facts.RunningFacts.owed_space.Goals as goal

pub returns : goal.returns
returns c = rw (← c.self.view_is) (λ k h answers.
    c.owed_space.ensures ∙ owed_space_is_held k h answers.after.run.run c.self.inside.machine.packets answers.after.packets)

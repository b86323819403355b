use Rattle.qa_sender.proofs.Sparing.{searched_is_held}
use Rattle.qa_sender.proofs.facts.RunningFacts.searched.Goals as goal

pub returns : goal.returns
returns c = rw (← c.self.view_is) (λ k h answers. searched_is_held c.self.inside.machine.connection k h answers.after.connection)

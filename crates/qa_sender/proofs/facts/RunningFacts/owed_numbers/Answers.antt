use Rattle.std.proofs.Common.{◌≡◌, ◌∙◌}
use Rattle.qa_sender.proofs.Causal.{on_each_ok}
use Rattle.qa_sender.proofs.Losses.{owed_numbers_stand}
use Rattle.qa_sent_packets.specs.Walks.{owed_numbers}
use Rattle.qa_sender.proofs.facts.RunningFacts.owed_numbers.Goals as goal

pub returns : goal.returns
returns c = rw (← c.self.view_is) (on_each_ok c.owed_numbers.result (λ found. found.items ≡ owed_numbers c.self.inside.machine.packets.packets) _ c.owed_numbers.ensures
    (λ found is k h answers. is ∙ owed_numbers_stand k h answers.after.run.run c.self.inside.machine.packets answers.after.packets))

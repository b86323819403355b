use Rattle.std.proofs.Common.{◌≡◌, ◌∙◌, ap}
use Rattle.qa_sender.proofs.Causal.{on_each_ok}
use Rattle.qa_sender.proofs.Nameable.{nameable_numbers_stand}
use Rattle.qa_sent_packets.specs.Free.{nameable_numbers}
use Rattle.qa_sent_packets.specs.declared.free.FreePackets.{FreePackets}
use Rattle.qa_sender.proofs.facts.RunningFacts.nameable_numbers.Goals as goal

pub returns : goal.returns
returns c =
    let machine = c.self.inside.machine in
    rw (← c.self.view_is) (on_each_ok c.nameable_numbers.result (λ found. found.items ≡ nameable_numbers c.free_packets-free.result machine.packets.packets) _ c.nameable_numbers.ensures
    (λ found is k h answers. is
    ∙ (ap (λ (free : FreePackets). nameable_numbers free machine.packets.packets) c.free_packets-free.ensures
    ∙ nameable_numbers_stand machine.connection k h answers.after.run.run answers.after.connection machine.packets answers.after.packets)))

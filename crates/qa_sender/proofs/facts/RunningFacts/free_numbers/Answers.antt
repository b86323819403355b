use Rattle.std.proofs.Common.{◌≡◌, ◌∙◌, ap}
use Rattle.qa_sender.proofs.Causal.{on_each_ok}
use Rattle.qa_sender.proofs.Sparing.{free_numbers_stand}
use Rattle.qa_sent_packets.specs.Free.{free_numbers}
use Rattle.qa_sent_packets.specs.declared.free.FreePackets.{FreePackets}
use Rattle.qa_sender.proofs.facts.RunningFacts.free_numbers.Goals as goal

pub returns : goal.returns
returns c =
    let machine = c.self.inside.machine in
    rw (← c.self.view_is) (on_each_ok c.free_numbers.result (λ found. found.items ≡ free_numbers c.free_packets-free.result machine.packets.packets) _ c.free_numbers.ensures
    (λ found is k h answers. is
    ∙ (ap (λ (free : FreePackets). free_numbers free machine.packets.packets) c.free_packets-free.ensures
    ∙ free_numbers_stand machine.connection k h answers.after.run.run answers.after.connection machine.packets answers.after.packets)))

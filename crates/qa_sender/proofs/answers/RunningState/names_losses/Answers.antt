use Rattle.std.proofs.Common.{◌∙◌, sym, ap, subst}
use Rattle.qa_base.specs.machine.Numbers.{names_between}
use Rattle.qa_sender.proofs.Losses.{owed_numbers_stand}
use Rattle.qa_sender.proofs.Nameable.{losses_are_named, owed_in_free}
use Rattle.qa_sent_packets.specs.Free.{AreOwedIn, nameable_numbers}
use Rattle.qa_sent_packets.specs.Walks.{owed_numbers}
use Rattle.qa_sent_packets.specs.declared.free.FreePackets.{FreePackets}
use Rattle.qa_sender.proofs.answers.RunningState.names_losses.Goals as goal

pub names_losses-requires : goal.names_losses-requires
names_losses-requires c =
    let machine = c.self.inside.machine in
    let sound = c.self.invariant in
    subst (λ (free : FreePackets). AreOwedIn free.space machine.packets.packets) (sym c.free_packets-free.ensures)
    (owed_in_free machine.connection sound.header sound.history sound.after.run.run sound.after.connection machine.packets sound.after.packets)

pub returns : goal.returns
returns c = rw (← c.self.view_is) (λ settings h is.
    let machine = c.self.inside.machine in
    c.names_losses.ensures
    ∙ (ap (λ (free : FreePackets). names_between c.args.ranges.now (owed_numbers machine.packets.packets) (nameable_numbers free machine.packets.packets)) c.free_packets-free.ensures
    ∙ losses_are_named machine.connection settings h is.after.run.run is.after.connection c.args.ranges.now machine.packets is.after.packets (owed_numbers_stand settings h is.after.run.run machine.packets is.after.packets)))

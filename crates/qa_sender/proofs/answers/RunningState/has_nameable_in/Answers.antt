use Rattle.std.proofs.Common.{◌∙◌, ◌||◌, ◌&&◌, sym, ap}
use Rattle.std.specs.List.{list_any}
use Rattle.qa_base.specs.values.Events.{is_space}
use Rattle.qa_sender.proofs.Nameable.{nameable_in_is_held}
use Rattle.qa_sender.specs.Freeing.{free_of}
use Rattle.qa_sent_packets.specs.Free.{is_free_by}
use Rattle.qa_sent_packets.specs.declared.free.FreePackets.{FreePackets}
use Rattle.qa_sender.proofs.answers.RunningState.has_nameable_in.Goals as goal

pub returns-then-owes_in : goal.returns-then-owes_in
returns-then-owes_in c = rw (← c.self.view_is) (λ settings h is.
    let machine = c.self.inside.machine in
    let free = free_of machine.connection in
    let rest = is_space c.args.space free.space && list_any (is_free_by free) machine.packets.packets in
    c.if-owes_in.true
    ∙ sym (nameable_in_is_held machine.connection settings h is.after.run.run is.after.connection c.args.space machine.packets is.after.packets
    ∙ ap (λ b. b || rest) (sym c.owes_in.ensures ∙ c.if-owes_in.true)))

pub returns-else-owes_in : goal.returns-else-owes_in
returns-else-owes_in c = rw (← c.self.view_is) (λ settings h is.
    let machine = c.self.inside.machine in
    let free = free_of machine.connection in
    let rest = is_space c.args.space free.space && list_any (is_free_by free) machine.packets.packets in
    c.has_free_in.ensures
    ∙ (ap (λ (f : FreePackets). is_space c.args.space f.space && list_any (is_free_by f) machine.packets.packets) c.free_packets-free.ensures
    ∙ sym (nameable_in_is_held machine.connection settings h is.after.run.run is.after.connection c.args.space machine.packets is.after.packets
    ∙ ap (λ b. b || rest) (sym c.owes_in.ensures ∙ c.if-owes_in.false))))

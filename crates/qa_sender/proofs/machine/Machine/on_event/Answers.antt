use Rattle.std.proofs.Common.{◌≡◌, refl, rules}
use Rattle.qa_base.specs.declared.event.Event.TheVariants.{Ack, Timer, Discard}
use Rattle.qa_base.specs.declared.space.TimerKind.TheVariants.{Loss}
use Rattle.qa_sent_packets.specs.declared.fate.Fate.TheVariants.{Open}
use Rattle.qa_sender.proofs.Sends.{next_has_room, next_is_above, next_is_last, settled_next}
use Rattle.qa_sender.proofs.machine.Machine.on_event.Goals as goal

pub on_sent-requires-clause-ordered : goal.on_sent-requires-clause-ordered
on_sent-requires-clause-ordered c = next_is_last c.args.self.now.connection.events c.args.self.now.packets c.args.event.now c.requires.next _ c.in-Sent.sent.permission c.place.ensures c.in-Sent.is

pub on_sent-requires-clause-aside : goal.on_sent-requires-clause-aside
on_sent-requires-clause-aside c =
    let sent = c.in-Sent.sent in
    next_is_above c.args.self.now.connection.events c.args.self.now.packets c.args.event.now c.requires.next
    (record { time = sent.time; place = 0; space = sent.space; number = sent.number; size = sent.size; eliciting = sent.eliciting; in_flight = sent.in_flight; fate = Open }) sent.permission c.in-Sent.is

pub on_sent-requires-clause-few : goal.on_sent-requires-clause-few
on_sent-requires-clause-few c = next_has_room c.args.self.now.connection.events c.args.self.now.packets c.args.event.now c.requires.next

pub on_ack-requires : goal.on_ack-requires
on_ack-requires c =
    settled_next c.args.self.now.connection.events c.args.self.now.packets c.args.event.now (Ack c.in-Ack.ack) c.in-Ack.is (λ k h. refl) c.requires.next

pub on_loss_timer-requires : goal.on_loss_timer-requires
on_loss_timer-requires c =
    let is : c.args.event.now ≡ Timer c.in-Timer-default-Loss-default.time Loss c.in-Timer-default-Loss-default.space = search rules in
    settled_next c.args.self.now.connection.events c.args.self.now.packets c.args.event.now (Timer c.in-Timer-default-Loss-default.time Loss c.in-Timer-default-Loss-default.space) is (λ k h. refl) c.requires.next

pub on_discard-requires : goal.on_discard-requires
on_discard-requires c = settled_next c.args.self.now.connection.events c.args.self.now.packets c.args.event.now (Discard c.in-Discard.time c.in-Discard.space) c.in-Discard.is (λ k h. refl) c.requires.next

pub returns-in-Sent-clause-ok : goal.returns-in-Sent-clause-ok
returns-in-Sent-clause-ok c = rw c.in-Sent.is c.on_sent.ensures.ok

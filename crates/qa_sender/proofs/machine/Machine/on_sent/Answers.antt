use Rattle.std.proofs.Common.{refl}
use Rattle.qa_sender.specs.Following.{as_sent}
use Rattle.qa_base.specs.declared.event.Event.TheVariants.{Sent}
use Rattle.qa_sender.proofs.connection_lemmas.OneMore.{sent_is}
use Rattle.qa_sender.proofs.Events.{stands_sent}
use Rattle.qa_sender.proofs.Sends.{at_its_place}
use Rattle.qa_sender.proofs.machine.Machine.on_sent.Goals as goal

pub returns-clause-ok : goal.returns-clause-ok
returns-clause-ok c = λ k h stands run.
    let old = c.args.self.now in
    let p = c.args.packet in
    let e = Sent (as_sent p c.args.permission) in
    c.finish.ensures k e h refl refl run (rw c.send.ensures stands.connection.events)
    (rw c.send.ensures (sent_is k h p c.args.permission old.connection stands.connection.parts run))
    (stands_sent k h p c.args.permission c.requires.open (at_its_place old.connection.events h p c.requires.place stands.connection.events run.few) run.run old.packets c.push.new.self stands.packets c.in_ok-push.ensures.ok)
    (c.in_ok-insert.ensures.ok h stands.numbers (as_sent p c.args.permission)) stands.watch

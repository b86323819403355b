use Rattle.std.proofs.Common.{refl}
use Rattle.qa_base.specs.declared.event.Event.TheVariants.{Discard}
use Rattle.qa_sender.proofs.connection_lemmas.OneMore.{discarded_is}
use Rattle.qa_sender.proofs.Acks.{sent_still}
use Rattle.qa_sender.proofs.Events.{stands_discarded}
use Rattle.qa_sender.proofs.machine.Machine.on_discard.Goals as goal

pub returns : goal.returns
returns c = λ k h stands run.
    let old = c.args.self.now in
    let e = Discard c.args.time c.args.space in
    c.finish.ensures k e h refl refl run (rw c.discard.ensures stands.connection.events)
    (rw c.discard.ensures (discarded_is k h c.args.time c.args.space old.connection stands.connection.parts))
    (stands_discarded k h c.args.time c.args.space run.run old.packets c.discard-2.new.self stands.packets c.discard-2.ensures) (sent_still old.numbers e h refl stands.numbers) stands.watch

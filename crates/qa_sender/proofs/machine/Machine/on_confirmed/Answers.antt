use Rattle.std.proofs.Common.{refl}
use Rattle.qa_base.specs.declared.event.Event.TheVariants.{Confirmed}
use Rattle.qa_sender.proofs.connection_lemmas.OneMore.{confirmed_is}
use Rattle.qa_sender.proofs.Acks.{sent_still}
use Rattle.qa_sender.proofs.Events.{stands_still}
use Rattle.qa_sender.proofs.machine.Machine.on_confirmed.Goals as goal

pub returns : goal.returns
returns c = λ k h stands run.
    let old = c.args.self.now in
    let e = Confirmed c.args.time in
    c.finish.ensures k e h refl refl run stands.connection.events (confirmed_is k h c.args.time old.connection stands.connection.parts)
    (stands_still k e h run.run refl refl (λ p. refl) (λ p. refl) (λ p. refl) (λ p. refl) old.packets stands.packets) (sent_still old.numbers e h refl stands.numbers) stands.watch

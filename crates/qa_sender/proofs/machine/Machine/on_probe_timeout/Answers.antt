use Rattle.std.proofs.Common.{refl}
use Rattle.qa_base.specs.declared.event.Event.TheVariants.{Timer}
use Rattle.qa_base.specs.declared.space.TimerKind.TheVariants.{Pto}
use Rattle.qa_sender.proofs.connection_lemmas.OneMore.{probing_is}
use Rattle.qa_sender.proofs.Acks.{sent_still}
use Rattle.qa_sender.proofs.Events.{stands_still}
use Rattle.qa_sender.proofs.machine.Machine.on_probe_timeout.Goals as goal

pub returns : goal.returns
returns c = λ k h stands run.
    let old = c.args.self.now in
    let e = Timer c.args.time Pto c.args.space in
    c.finish.ensures k e h refl refl run (rw c.probe.ensures stands.connection.events)
    (rw c.probe.ensures (probing_is k h c.args.time c.args.space old.connection stands.connection.parts run))
    (stands_still k e h run.run refl refl (λ p. refl) (λ p. refl) (λ p. refl) (λ p. refl) old.packets stands.packets) (sent_still old.numbers e h refl stands.numbers) stands.watch

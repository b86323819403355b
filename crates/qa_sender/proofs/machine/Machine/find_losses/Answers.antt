use Rattle.std.proofs.Common.{◌∙◌, ap, ap₂, subst}
use Rattle.qa_base.specs.values.Settings.{AreInRange}
use Rattle.qa_base.specs.machine.Loss.{declared, is_persistent}
use Rattle.qa_sender.specs.connection.Steps.{last_sent}
use Rattle.qa_sender.specs.connection.Changes.{with_persistent_congestion, with_congestion_event}
use Rattle.qa_sender.specs.declared.connection.connection.Connection.{Connection}
use Rattle.qa_sender.proofs.Losses.{stands_losses}
use Rattle.qa_sender.proofs.machine.Machine.find_losses.Goals as goal

pub returns-clause-connection : goal.returns-clause-connection
returns-clause-connection c = λ k h run loses measured sent once.
    let stands = c.detect.ensures.packets k h run measured sent once in
    let same = c.detect.ensures.connection in
    let are = c.losses-losses.ensures k h (stands_losses k h run loses c.detect.new.self.packets stands) run
    (ap (λ (x : Connection). x.header) same ∙ measured.header) (ap (λ (x : Connection). x.rtt) same ∙ measured.rtt) in
    c.lose.ensures.value
    ∙ (ap₂ (λ b o. with_persistent_congestion b (with_congestion_event c.args.mark o c.detect.new.self.connection)) are.is_persistent are.last_lost
    ∙ ap (λ (x : Connection). with_persistent_congestion (is_persistent k h) (with_congestion_event c.args.mark (last_sent k (declared k h)) x)) same)

pub returns-clause-range : goal.returns-clause-range
returns-clause-range c = subst (λ (x : Connection). AreInRange x.header) c.detect.ensures.connection c.lose.ensures.range

use Rattle.std.proofs.Common.{◌≡◌, ◌∙◌, ap₂, List, rules}
use Rattle.qa_base.specs.declared.event.Event.{Event}
use Rattle.qa_base.specs.machine.Breaches.{numbers}
use Rattle.qa_base.specs.machine.Loss.{owed, nameable}
use Rattle.qa_base.specs.machine.Numbers.{names_between}
use Rattle.qa_base.specs.machine.Packets.{history_of}
use Rattle.qa_base.specs.values.Settings.{Settings}
use Rattle.qa_reference.proofs.whole.WholeState.names_losses.Goals as goal

pub returns : goal.returns
returns c s h stands =
    let header : c.self.inside.header ≡ s = search rules in
    let events : history_of c.deref.result.now ≡ h = search rules in
    c.names_losses.ensures ∙ ap₂ (λ (s : Settings) (h : List Event). names_between c.args.ranges.now (numbers (owed s h)) (numbers (nameable s h))) header events

use Rattle.std.proofs.Common.{◌∙◌, ap, option_map, sym}
use Rattle.qa_sender.proofs.Causal.{oldest_is_held, told}
use Rattle.qa_sender.proofs.facts.RunningFacts.oldest.Goals as goal

pub returns-in-None : goal.returns-in-None
returns-in-None c = rw (← c.self.view_is) (λ k h answers.
    ap (option_map told) (sym c.in-None.is ∙ c.first_flying.ensures) ∙ oldest_is_held k h c.args.space c.self.inside.machine.packets answers.after.packets)

pub returns-in-Some : goal.returns-in-Some
returns-in-Some c = rw (← c.self.view_is) (λ k h answers.
    ap (option_map told) (sym c.in-Some.is ∙ c.first_flying.ensures) ∙ oldest_is_held k h c.args.space c.self.inside.machine.packets answers.after.packets)

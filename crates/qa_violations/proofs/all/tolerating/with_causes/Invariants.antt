use Rattle.std.proofs.Common.{◌≡◌, List, take}
use Rattle.qa_base.specs.declared.event.Event.{Event}
use Rattle.qa_base.specs.values.Settings.{Settings}
use Rattle.qa_violations.specs.all.Tolerating.{explained}
use Rattle.qa_violations.proofs.all.tolerating.with_causes.Given as goal

abbrev pub invariant-loop-rule : goal.invariant-loop-rule
invariant-loop-rule g l = (c : Settings) (h : List Event) → g.L.Ledger.stands l.ledger c h
    → l.found.items ≡ explained c h l.event (take l.rule-index l.rules)

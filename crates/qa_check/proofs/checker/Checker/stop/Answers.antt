use Rattle.std.proofs.Common.{◌∙◌, ◌+◌, ℕ, Option, Some, refl, ap}
use Rattle.qa_base.specs.declared.totals.Totals.{Totals}
use Rattle.qa_format.specs.declared.verdict.Verdict.TheVariants.{Unreadable}
use Rattle.qa_check.proofs.Growing.{count_of}
use Rattle.qa_check.proofs.checker.Checker.stop.Goals as goal

-- Written out, so that a wrong body is refused at these lines.
pub returns-clause-decided : goal.returns-clause-decided
returns-clause-decided g c = refl

pub returns-clause-verdict : goal.returns-clause-verdict
returns-clause-verdict g c = λ header h holds.
    ap (λ (n : ℕ). Some (Unreadable (n + 1) c.args.fault c.totals-totals.result)) (count_of _ _ c.self.view_is)
    ∙ ap (λ (t : Option Totals). Some (Unreadable (c.args.self.now.lines + 1) c.args.fault t)) (c.totals-totals.ensures header h holds)

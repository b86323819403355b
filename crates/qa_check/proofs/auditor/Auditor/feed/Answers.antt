use Rattle.std.proofs.Common.{◌≡◌, ◌∙◌, Ok, ap}
use Rattle.qa_check.specs.declared.auditor.Progress.TheVariants.{Fixed}
use Rattle.qa_check.proofs.Fed.{brings_on, fixed_is_over}
use Rattle.qa_check.proofs.auditor.Auditor.feed.Goals as goal

pub returns-in-Ok-Fixed-clause-fed : goal.returns-in-Ok-Fixed-clause-fed
returns-in-Ok-Fixed-clause-fed g c =
    let fixed : c.in-Ok-Fixed.field-0 ≡ Fixed c.in-Ok-Fixed.verdict = rw c.in-Ok-Fixed.is at c.in-Ok-Fixed.field-0-is in
    let is = c.in-Ok-Fixed.is ∙ ap Ok fixed in
    rw (← c.self.view_is) (λ bytes f.
    brings_on g.L.Judge.judges c.self.inside.progress c.self.inside.splitter c.self.inside.checker bytes c.args.piece.now
    (fixed_is_over c.self.inside.progress c.in-Ok-Fixed.verdict is) f)

use Rattle.std.proofs.Common.{◌≡◌, ◌∙◌, Ok, ap}
use Rattle.qa_check.specs.declared.auditor.Progress.TheVariants.{Open, Fixed}
use Rattle.qa_format.specs.format.Lines.{with_lf}
use Rattle.qa_check.proofs.Fed.{brings_on, brings_open, fixed_is_over, failed_is_over}
use Rattle.qa_check.proofs.SaidLines.{none_of}
use Rattle.qa_check.proofs.auditor.Auditor.take_said.Goals as goal

pub returns-in-Ok-Open-clause-fed : goal.returns-in-Ok-Open-clause-fed
returns-in-Ok-Open-clause-fed g c =
    let opened : c.in-Ok-Open.field-0 ≡ Open = rw c.in-Ok-Open.is at c.in-Ok-Open.field-0-is in
    let is = c.in-Ok-Open.is ∙ ap Ok opened in
    let empty = none_of c.self.inside.splitter.bytes (rw (← c.self.view_is) at c.requires.between) in
    rw (← c.self.view_is) (λ bytes l line f.
    let shown = (brings_open g.L.Judge.judges c.self.inside.progress c.self.inside.splitter c.self.inside.checker bytes is f).2 in
    c.take_said.ensures.fed c.self.inside.splitter bytes l empty line (rw empty at shown))

pub returns-in-Ok-Fixed-clause-fed : goal.returns-in-Ok-Fixed-clause-fed
returns-in-Ok-Fixed-clause-fed g c =
    let fixed : c.in-Ok-Fixed.field-0 ≡ Fixed c.in-Ok-Fixed.field-0-0 = rw c.in-Ok-Fixed.is at c.in-Ok-Fixed.field-0-is in
    let is = c.in-Ok-Fixed.is ∙ ap Ok fixed in
    rw (← c.self.view_is) (λ bytes l line f.
    brings_on g.L.Judge.judges c.self.inside.progress c.self.inside.splitter c.self.inside.checker bytes (with_lf l)
    (fixed_is_over c.self.inside.progress c.in-Ok-Fixed.field-0-0 is) f)

pub returns-in-Err-clause-fed : goal.returns-in-Err-clause-fed
returns-in-Err-clause-fed g c = rw (← c.self.view_is) (λ bytes l line f.
    brings_on g.L.Judge.judges c.self.inside.progress c.self.inside.splitter c.self.inside.checker bytes (with_lf l)
    (failed_is_over c.self.inside.progress c.in-Err.field-0 c.in-Err.is) f)

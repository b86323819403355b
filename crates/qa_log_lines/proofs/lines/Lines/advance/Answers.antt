use Rattle.std.proofs.Common.{◌∙◌, ap, inr, subst}
use Rattle.qa_logs.specs.Tracing.{given}
use Rattle.qa_log_lines.specs.Reading.{TakesPart}
use Rattle.qa_log_lines.proofs.lines.Lines.advance.Goals as goal

pub returns-clause-goes : goal.returns-clause-goes
returns-clause-goes g c is =
    let cleared = c.clear.ensures ∙ ap (λ lines. given lines.0) c.self.view_is in
    let takes = subst (λ old. TakesPart old c.in_ok-take_part.field-0 c.take_part.new.self.0) cleared c.in_ok-take_part.ensures.takes in
    inr (
      c.take_part.new.self.0,
      subst (λ wants. TakesPart (given c.args.self.now.0) wants c.take_part.new.self.0) c.in-Nothing.is takes,
      c.in_ok-close.ensures.closes,
    )

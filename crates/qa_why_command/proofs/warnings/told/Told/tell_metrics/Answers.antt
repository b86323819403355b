use Rattle.std.proofs.Common.{◌∙◌, map, sym}
use Rattle.qa_why_command.specs.warnings.Found.{at, of_metrics}
use Rattle.qa_why_command.proofs.warnings_lemmas.Telling.{full_stays}
use Rattle.qa_why_command.proofs.warnings.told.Told.tell_metrics.Goals as goal

pub returns-then-is_full : goal.returns-then-is_full
returns-then-is_full c = λ fs tells.
    full_stays c.args.name.now c.args.self.now fs (map (at c.args.n) (of_metrics c.args.version c.args.line.now)) (sym c.is_full.ensures ∙ c.if-is_full.true) tells

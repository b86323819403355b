use Rattle.std.proofs.Common.{refl}
use Rattle.qa_why_command.proofs.warnings.warnings.Warnings.new.Goals as goal

pub returns : goal.returns
returns c = λ name. (c.new.ensures name, refl)

use Rattle.std.proofs.Common.{refl}
use Rattle.qa_why_command.proofs.warnings_lemmas.Telling.{told_none}
use Rattle.qa_why_command.proofs.warnings.told.Told.new.Goals as goal

pub returns : goal.returns
returns c = λ name. rw (told_none, c.new.ensures.items, c.new-2.ensures.items) (refl, refl, refl, refl)

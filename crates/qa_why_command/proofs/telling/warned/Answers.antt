use Rattle.qa_why_command.proofs.Noted.{told_whole}
use Rattle.qa_why_command.proofs.telling.warned.Goals as goal

pub returns-in-Ok-clause-told : goal.returns-in-Ok-clause-told
returns-in-Ok-clause-told g c =
    rw c.in-Ok.is
    (λ name ls covers. rw (c.text.ensures name ls covers) at (told_whole c.write_whole-begun.result _ _ _ _ _ c.write_whole-begun.ensures.ok c.write_whole-begun.ensures.err c.write_whole-begun.ensures.failures c.write_whole-begun.ensures.write))

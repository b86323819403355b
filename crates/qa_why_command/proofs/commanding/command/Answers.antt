use Rattle.std.proofs.Common.{inl, sym}
use Rattle.std.specs.Prelude.{is_err}
use Rattle.qa_why_command.proofs.Noted.{refused_by}
use Rattle.qa_why_command.proofs.commanding.command.Goals as goal

pub returns-in-Ok-Nothing-clause-told : goal.returns-in-Ok-Nothing-clause-told
returns-in-Ok-Nothing-clause-told g c =
    inl (rw (sym c.in-Ok-Nothing.ensures, c.in-Ok-Nothing.field-0-is)
    (refused_by c.as_str-in-Ok-Nothing.result.now _ _ _ _ (is_err c.write_lines-begun.result, c.write_lines-begun.ensures)))

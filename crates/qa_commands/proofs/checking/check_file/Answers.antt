use Rattle.std.proofs.Common.{refl}
use Rattle.qa_commands.proofs.Written.{checked_alone}
use Rattle.qa_commands.proofs.checking.check_file.Goals as goal

pub returns-clause-written : goal.returns-clause-written
returns-clause-written g c = checked_alone _ _ _ _ c.args.several c.args.name _ c.if-several.false refl c.audited.ensures.written

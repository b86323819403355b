use Rattle.qa_convert.proofs.Dialected.{begins}
use Rattle.qa_convert.proofs.dialects.begins_with.Goals as goal

pub returns-then-mark-text : goal.returns-then-mark-text
returns-then-mark-text c = begins c.eq_ignore_ascii_case.result c.args.mark.now c.args.text.now c.eq_ignore_ascii_case.ensures.test

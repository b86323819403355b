use Rattle.std.proofs.Common.{◌∙◌}
use Rattle.std.proofs.lemmas.Str.{is_utf8-from_IsUtf8}
use Rattle.qa_qlog.proofs.Values.{head_text, no_head_text}
use Rattle.qa_qlog.proofs.heads.head_of.Goals as goal

pub returns-in-Ok-clause-value : goal.returns-in-Ok-clause-value
returns-in-Ok-clause-value c memory =
    c.by_text.ensures memory ∙ head_text c.args.text.now c.in-Ok.text.now c.in-Ok.ensures.cases.0 c.in-Ok.ensures.cases.1

pub returns-in-Ok-clause-memory : goal.returns-in-Ok-clause-memory
returns-in-Ok-clause-memory c memory = is_utf8-from_IsUtf8 c.args.text.now c.in-Ok.ensures.cases.1

pub returns-in-Err-clause-value : goal.returns-in-Err-clause-value
returns-in-Err-clause-value c memory = no_head_text c.args.text.now c.in-Err.ensures.cases.0

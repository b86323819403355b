use Rattle.std.proofs.Common.{◌∙◌, sym}
use Rattle.qa_qlog.proofs.Beginning.{text_line, no_text_line, text_read}
use Rattle.qa_qlog.proofs.kinds.by_line.Goals as goal

pub returns-in-Ok-clause-value : goal.returns-in-Ok-clause-value
returns-in-Ok-clause-value c memory =
    c.by_text.ensures memory ∙ text_line c.args.line.now c.in-Ok.text.now (sym c.is_netlog.ensures ∙ c.if-is_netlog.false) c.in-Ok.ensures.cases.0 c.in-Ok.ensures.cases.1

pub returns-in-Err-clause-value : goal.returns-in-Err-clause-value
returns-in-Err-clause-value c memory = no_text_line c.args.line.now (sym c.is_netlog.ensures ∙ c.if-is_netlog.false) c.in-Err.ensures.cases.0

pub returns-in-Ok-clause-memory : goal.returns-in-Ok-clause-memory
returns-in-Ok-clause-memory c memory = text_read c.args.line.now (sym c.is_netlog.ensures ∙ c.if-is_netlog.false) c.in-Ok.ensures.cases.1

use Rattle.std.proofs.Common.{◌∙◌, sym}
use Rattle.qa_qlog.proofs.Beginning.{with_schema, by_serialization}
use Rattle.qa_qlog.proofs.kinds.is_header.Goals as goal

pub returns-then-has-4 : goal.returns-then-has-4
returns-then-has-4 c j begins =
    c.if-has-4.true
    ∙ with_schema j (sym (c.has.ensures j begins) ∙ c.if-has.false) (sym (c.has-2.ensures j begins) ∙ c.if-has-2.false)
    (sym (c.has-else-has-2.ensures j begins) ∙ c.if-has-3.false) (sym (c.has-3.ensures j begins) ∙ c.if-has-4.true)

pub returns-else-has-4 : goal.returns-else-has-4
returns-else-has-4 c j begins =
    c.has-else-has-4.ensures j begins
    ∙ by_serialization j (sym (c.has.ensures j begins) ∙ c.if-has.false) (sym (c.has-2.ensures j begins) ∙ c.if-has-2.false)
    (sym (c.has-else-has-2.ensures j begins) ∙ c.if-has-3.false) (sym (c.has-3.ensures j begins) ∙ c.if-has-4.false)

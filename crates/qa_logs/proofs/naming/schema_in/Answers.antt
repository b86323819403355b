use Rattle.std.proofs.Common.{◌∙◌, codes, sym}
use Rattle.qa_qlog.specs.Heads.{said}
use Rattle.qa_logs.specs.Heads.{text_of}
use Rattle.qa_logs.proofs.Parsed.{has_schema, no_schema}
use Rattle.qa_logs.proofs.naming.schema_in.Goals as goal

pub returns-then-is_empty : goal.returns-then-is_empty
returns-then-is_empty c h t begins finds =
    let schema = said (codes "file_schema") h t in
    let version = said (codes "qlog_version") h t in
    no_schema c.text_of-schema.result.now (text_of schema) (text_of version) c.text_of.result.now
    (c.text_of-schema.ensures schema (c.said.ensures h t begins finds))
    (sym c.is_empty.ensures ∙ c.if-is_empty.true)
    (c.text_of.ensures version (c.said-then-is_empty.ensures h t begins finds))

pub returns-else-is_empty : goal.returns-else-is_empty
returns-else-is_empty c h t begins finds =
    let schema = said (codes "file_schema") h t in
    has_schema c.text_of-schema.result.now (text_of schema) (text_of (said (codes "qlog_version") h t))
    (c.text_of-schema.ensures schema (c.said.ensures h t begins finds))
    (sym c.is_empty.ensures ∙ c.if-is_empty.false)

use Rattle.std.proofs.Common.{◌∙◌, ap₂}
use Rattle.qa_format.specs.format.Keys.{both}
use Rattle.qa_read.proofs.tables.header_values.Goals as goal

pub returns : goal.returns
returns c = c.both.ensures ∙ ap₂ both c.header_fields.ensures c.options.ensures

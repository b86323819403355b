use Rattle.std.proofs.Common.{◌∙◌, ap₂}
use Rattle.qa_format.specs.format.Keys.{both}
use Rattle.qa_read.proofs.tables.option_and_choice_fields.Goals as goal

pub returns : goal.returns
returns c = c.both.ensures ∙ ap₂ both c.option_fields.ensures c.choice_fields.ensures

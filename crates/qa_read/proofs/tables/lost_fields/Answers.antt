use Rattle.std.proofs.Common.{◌∙◌, ap₂}
use Rattle.qa_format.specs.format.Keys.{both}
use Rattle.qa_read.proofs.tables.lost_fields.Goals as goal

pub returns : goal.returns
returns c = c.both.ensures ∙ ap₂ both c.time.ensures (c.both-rest.ensures ∙ ap₂ both c.space.ensures c.in_ok-ranges.ensures)

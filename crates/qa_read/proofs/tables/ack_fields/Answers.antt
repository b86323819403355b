use Rattle.std.proofs.Common.{◌∙◌, ap₂}
use Rattle.qa_format.specs.format.Keys.{both}
use Rattle.qa_read.proofs.tables.ack_fields.Goals as goal

pub returns : goal.returns
returns c =
    let flags = c.both-rest.ensures ∙ ap₂ both c.integer_or_zero.ensures c.boolean_or_false.ensures in
    let listed = c.both-rest-2.ensures ∙ ap₂ both c.in_ok-ranges.ensures flags in
    let spaces = c.both-rest-3.ensures ∙ ap₂ both c.space.ensures listed in
    c.both.ensures ∙ ap₂ both c.time.ensures spaces

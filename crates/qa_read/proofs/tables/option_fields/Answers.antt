use Rattle.std.proofs.Common.{◌∙◌, ap₂}
use Rattle.qa_format.specs.format.Keys.{both}
use Rattle.qa_read.proofs.tables.option_fields.Goals as goal

pub returns : goal.returns
returns c =
    let machine = c.both-machine.ensures ∙ ap₂ both c.optional_integer.ensures c.boolean_or_false.ensures in
    let slack = c.both-slack.ensures ∙ ap₂ both c.integer_or_zero.ensures c.integer_or_zero-2.ensures in
    c.both.ensures ∙ ap₂ both machine slack

use Rattle.std.proofs.Common.{◌∙◌, ap₂}
use Rattle.qa_format.specs.format.Keys.{both}
use Rattle.qa_read.proofs.tables.header_fields.Goals as goal

pub returns : goal.returns
returns c =
    let named = c.both-named.ensures ∙ ap₂ both c.required_integer.ensures c.role.ensures in
    let most = c.both-most.ensures ∙ ap₂ both c.required_integer-2.ensures c.optional_integer.ensures in
    let initial = c.both-initial.ensures ∙ ap₂ both c.optional_integer-2.ensures c.optional_integer-3.ensures in
    let numbers = c.both-numbers.ensures ∙ ap₂ both most initial in
    let timed = c.both-timed.ensures ∙ ap₂ both c.unit_and_window.ensures numbers in
    c.both.ensures ∙ ap₂ both named timed

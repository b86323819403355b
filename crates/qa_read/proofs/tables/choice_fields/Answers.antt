use Rattle.std.proofs.Common.{◌∙◌, ap₂}
use Rattle.qa_format.specs.format.Keys.{both}
use Rattle.qa_read.proofs.tables.choice_fields.Goals as goal

pub returns : goal.returns
returns c =
    let flags = c.both-flags.ensures ∙ ap₂ both c.boolean_or_false.ensures c.boolean_or_false-2.ensures in
    let numbers = c.both-numbers.ensures ∙ ap₂ both c.packet_threshold.ensures c.integer_or_zero.ensures in
    let words = c.both-words.ensures ∙ ap₂ both c.loss_by_number.ensures c.threshold_counts.ensures in
    let rtts = c.both-rtts.ensures ∙ ap₂ both c.boolean_or_false-3.ensures c.boolean_or_false-4.ensures in
    let lasts = c.both-lasts.ensures ∙ ap₂ both c.time_threshold_eighths.ensures c.boolean_or_false-5.ensures in
    let delays = c.both-delays.ensures ∙ ap₂ both rtts lasts in
    let behind = c.both-behind.ensures ∙ ap₂ both words delays in
    let rest = c.both-rest.ensures ∙ ap₂ both numbers behind in
    c.both.ensures ∙ ap₂ both flags rest

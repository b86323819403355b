use Rattle.std.proofs.Common.{sym, ◌∙◌}
use Rattle.qa_format.proofs.format.ProperReadings.{reading_fits}
use Rattle.qa_read.proofs.reader.put_value.Goals as goal

pub read_value-requires : goal.read_value-requires
read_value-requires c = sym c.is_blank.ensures ∙ c.if-is_blank.false

pub returns-clause-fitting : goal.returns-clause-fitting
returns-clause-fitting c = reading_fits c.args.bytes.now c.in_ok-into.field-0 c.in_ok-into.ensures.read

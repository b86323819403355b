use Rattle.std.specs.Prelude.{string_bytes}
use Rattle.qa_format.proofs.format.ProperReadings.{reading_is_proper}
use Rattle.qa_convert.proofs.noted.push_by_value.Goals as goal

pub returns-clause-proper : goal.returns-clause-proper
returns-clause-proper c = reading_is_proper (string_bytes c.in_ok-text.text) c.args.line.now c.in_ok-text.ensures.read_back
